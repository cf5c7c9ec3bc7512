pub mod Choice
pub mod Quantifiers
pub mod FiniteSets
pub mod Rounds
pub mod Strings
pub mod Lists
pub mod inner
