pub mod Reading
pub mod Told
pub mod Rounds
pub mod Turns
pub mod Chains
