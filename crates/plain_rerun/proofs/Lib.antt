pub mod Goes
pub mod Rounds
pub mod Turns
pub mod Under
