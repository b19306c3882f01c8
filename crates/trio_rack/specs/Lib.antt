pub mod Numbers
pub mod Trios
pub mod Each
