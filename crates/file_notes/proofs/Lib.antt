pub mod Plans
pub mod Noted
pub mod Steps
pub mod Compacts
