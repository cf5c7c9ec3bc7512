pub mod Limits
pub mod Codes
pub mod Syntax
pub mod Encoding
pub mod Reading
pub mod inner
pub mod examples
