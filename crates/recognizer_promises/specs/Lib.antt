pub mod LeastFamilies
pub mod Words
pub mod Answers
pub mod Memory
pub mod Properties
pub mod CostliestInput
pub mod Costliest
pub mod inner
