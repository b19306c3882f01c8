pub mod Marking
pub mod Picked
pub mod States
pub mod Lands
pub mod Timely
pub mod Itself
pub mod Admitted
pub mod One
