pub mod Decimal
pub mod Examples
pub mod Lengths
pub mod Outputs
pub mod Writing
