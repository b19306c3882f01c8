pub mod Read
pub mod Told
pub mod Written
pub mod Forms
pub use Rattle.frame_codec.proofs as FrameCodec
