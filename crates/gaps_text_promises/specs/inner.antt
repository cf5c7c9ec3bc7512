pub mod Gaps
pub mod Steps
