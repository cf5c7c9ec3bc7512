pub mod Usages
pub mod Sums
pub mod inner
