pub mod Sections
pub mod Standing
pub mod Turns
pub mod Short
pub mod Retold
pub mod Edited
