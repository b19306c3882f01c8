pub mod Buffers
pub mod Stream
pub mod Streams
pub mod Sockets
pub mod Accepts
