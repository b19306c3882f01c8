pub mod Shadows
pub mod Own
pub mod Laws
pub mod Places
pub mod Views
pub mod Vectors
