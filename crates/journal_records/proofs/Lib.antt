pub mod Codec
pub mod Chains
pub mod Exact
pub mod Older
pub mod OtherStates
pub mod Roles
pub mod Counts
pub mod Levels
pub mod Measured
pub mod Sizes
pub use Rattle.replay_spec.proofs as ReplaySpec
