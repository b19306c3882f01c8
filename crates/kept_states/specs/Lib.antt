pub mod Links
pub mod Kept
pub mod Given
pub mod Told
pub mod Vectors
pub mod Forms
pub use Rattle.frame_codec.specs as FrameCodec
pub use Rattle.frame_codec.specs.MachineStates
