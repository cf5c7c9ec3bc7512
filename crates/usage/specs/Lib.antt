pub mod Counters
pub mod Histories
pub mod inner
pub mod examples
