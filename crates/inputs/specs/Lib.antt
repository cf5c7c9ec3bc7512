pub mod Inputs
pub mod Costliest
pub mod inner
