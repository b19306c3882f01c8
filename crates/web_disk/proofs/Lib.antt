pub mod Images
pub mod Moments
pub mod Racks
pub mod Repeats
pub mod Sure
pub mod Traces
pub mod Wrecks
