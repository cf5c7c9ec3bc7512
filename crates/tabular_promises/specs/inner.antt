pub mod Places
pub mod Chart
pub mod Scanning
pub mod Filling
pub mod Spans
pub mod Judging
