pub mod Limits
pub mod Codes
pub mod Starts
pub mod WellRead
