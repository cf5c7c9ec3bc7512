pub mod Overruns
pub mod Claims
