pub mod Fours
pub mod Examples
