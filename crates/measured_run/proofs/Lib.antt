pub mod Drawn
pub mod Fits
pub mod Fitting
pub mod Reached
pub mod Going
pub mod Reading
