pub mod Codes
pub mod Histories
pub mod Serving
pub mod Runs
