pub mod Meaning
pub mod Acts
pub mod Inside
pub mod Grow
pub mod Replay
pub mod Bound
pub mod Ends
pub mod Halting
pub mod Record
pub mod Fitting
pub mod Law
pub mod Visiting
pub mod Stepping
pub mod Unbound
pub mod Stacks
pub mod NodesOnCells
pub use Rattle.replay_spec.proofs as ReplaySpec
