pub mod Properties
pub mod inner
