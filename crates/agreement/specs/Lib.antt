pub mod Widening
pub mod Agreement
pub mod Theorems
