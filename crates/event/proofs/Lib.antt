pub mod Inputs
pub mod Known
