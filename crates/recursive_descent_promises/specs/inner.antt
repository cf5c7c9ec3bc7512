pub mod Descent
pub mod Judging
pub mod Search
