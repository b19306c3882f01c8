pub mod Files
pub mod Lendings
pub mod MemoryFiles
pub mod MemoryRacks
pub mod Served
pub mod Watches
