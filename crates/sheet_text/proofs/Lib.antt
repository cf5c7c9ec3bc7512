pub mod Examples
pub mod Lengths
pub mod Limited
pub mod Rows
