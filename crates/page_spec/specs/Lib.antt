pub mod Markup
pub mod Page
pub mod Renders
pub mod Laws
pub mod Nesting
pub mod Tags
pub mod Vectors
