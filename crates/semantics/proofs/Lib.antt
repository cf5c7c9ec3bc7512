pub mod meaning
pub mod families
pub mod descent
pub mod Theorems
