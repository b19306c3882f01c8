pub mod Views
pub use Rattle.replay_spec.specs as ReplaySpec
