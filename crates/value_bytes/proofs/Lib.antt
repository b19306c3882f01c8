pub mod Numbers
pub mod Lists
pub mod Trees
pub mod Turns
pub mod Counts
pub mod Lengths
