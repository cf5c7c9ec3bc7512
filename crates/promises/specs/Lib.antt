pub mod Memory
pub mod Leaving
pub mod Directions
pub mod Places
pub mod Inputs
pub mod Lengths
pub mod inner
