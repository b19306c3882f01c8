pub mod Scanning
pub mod Values
pub mod Following
pub mod Decisions
mod Fronts
pub mod Bounds
pub mod Pieces
pub mod Streaming
pub mod OneStream
pub mod Ends
pub mod Verdicts
pub mod Writing
