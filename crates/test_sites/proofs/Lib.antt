pub mod Crossings
pub mod FirstPasses
pub mod Popped
pub mod Written
