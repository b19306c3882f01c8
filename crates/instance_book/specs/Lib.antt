pub mod Orders
pub mod Lists
pub mod Views
pub mod Uses
pub mod Places
pub mod Fronts
pub mod Makes
pub mod Fits
pub mod Changes
pub mod Standing
pub mod Swept
pub mod Segments
pub mod Copies
pub mod Visits
pub use Rattle.kept_states.specs as KeptStates
pub use Rattle.kept_states.specs.FrameCodec
