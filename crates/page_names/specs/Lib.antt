pub mod NameBytes
pub mod Hex
pub mod Names
pub mod Placing
pub mod Views
pub mod Vectors
