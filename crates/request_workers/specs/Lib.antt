pub mod Scenes
pub mod Bytes
pub mod Requests
pub mod Serving
pub mod Linking
pub mod Counting
pub mod Tallies
pub mod Working
