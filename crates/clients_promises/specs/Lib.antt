pub mod Histories
pub mod Properties
pub mod Runs
