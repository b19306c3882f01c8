pub mod Cells
pub mod Views
pub mod OneCell
pub mod Trails
pub mod Vectors
