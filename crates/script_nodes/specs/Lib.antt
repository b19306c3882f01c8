pub mod Core
pub mod Closed
pub mod Calls
pub mod Layout
pub mod Layouts
pub mod Arena
pub mod Readings
pub mod Setup
pub mod Views
pub use Rattle.prim_spec.specs as PrimSpec
pub use Rattle.page_names.specs as PageNames
