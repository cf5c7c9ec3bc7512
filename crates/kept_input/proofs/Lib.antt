pub mod Adding
pub mod Judging
pub mod Histories
