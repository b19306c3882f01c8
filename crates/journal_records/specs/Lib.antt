pub mod Fields
pub mod Records
pub mod Reading
pub mod Old
pub mod Roles
pub mod Laws
pub mod Views
pub mod Vectors
pub use Rattle.replay_spec.specs as ReplaySpec
