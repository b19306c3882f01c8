pub mod Letters
pub mod Limits
pub mod Read
pub mod Spells
pub mod Views
pub mod Laws
pub mod Vectors
