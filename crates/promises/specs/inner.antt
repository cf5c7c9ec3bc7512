pub mod Inputs
pub mod Lengths
