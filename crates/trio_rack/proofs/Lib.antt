pub mod Bare
pub mod Each
pub mod Homes
