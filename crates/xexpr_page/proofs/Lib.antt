pub mod Pushed
pub mod Grammar
pub mod Inside
pub mod Nested
pub mod Closed
pub mod Shaped
pub mod VoidNames
pub mod Plain
