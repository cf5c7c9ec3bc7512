pub mod Held
pub mod Properties
pub mod Runs
pub mod inner
