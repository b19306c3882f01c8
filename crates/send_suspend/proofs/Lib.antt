pub mod Held
pub mod Law
pub use Rattle.machine_states.proofs.ReplaySpec
