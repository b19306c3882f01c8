pub mod Acks
pub mod Calls
pub mod Causes
pub mod Comparing
pub mod Computed
pub mod Ends
pub mod Exporting
pub mod Feed
pub mod Following
pub mod Held
pub mod Keeping
pub mod Laws
pub mod Moments
pub mod Reading
pub mod Sending
pub mod Vectors
pub use Rattle.shelf.specs as OfShelf
