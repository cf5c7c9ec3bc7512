pub mod Narrowing
pub mod Enough
pub mod Refusals
pub mod Agreeing
pub mod Theorems
