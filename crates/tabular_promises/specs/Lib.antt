pub mod Spans
pub mod Answers
pub mod Properties
pub mod inner
pub mod examples
