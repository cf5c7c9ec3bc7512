pub mod Families
pub mod Predictive
pub mod Choices
pub mod ComesTo
pub mod Memo
pub mod MemoDescent
pub mod Theorems
