pub mod Spots
pub mod Rows
pub mod Locking
pub mod Locks
