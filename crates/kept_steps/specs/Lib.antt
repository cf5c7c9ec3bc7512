pub mod Histories
pub mod Sound
pub mod Sentences
