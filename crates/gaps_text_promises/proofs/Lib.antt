pub mod Entries
pub mod Overlaps
pub mod Same
pub mod Lengths
pub mod Examples
pub mod Limits
