pub mod Shelves
pub mod Kept
pub mod Pages
pub mod Visits
pub mod Following
pub mod Serving
pub mod Workers
pub mod Totals
