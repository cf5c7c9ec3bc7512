pub mod Sums
pub mod Charges
