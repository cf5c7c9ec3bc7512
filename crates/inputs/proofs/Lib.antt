pub mod Numbers
pub mod Counting
pub mod Writing
pub mod Greatest
pub mod Searching
pub mod Examples
