pub mod Lengths
pub mod Files
pub mod Counts
pub mod Answers
pub mod Enough
