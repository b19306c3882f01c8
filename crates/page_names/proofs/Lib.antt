pub mod Hex
pub mod Spelled
pub mod Plain
pub mod Letters
