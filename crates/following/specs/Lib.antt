pub mod Following
pub mod Theorems
pub mod inner
