pub mod Stored
pub mod Properties
pub mod inner
pub mod examples
