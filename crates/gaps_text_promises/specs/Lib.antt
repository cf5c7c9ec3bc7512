pub mod Gaps
pub mod Room
pub mod inner
