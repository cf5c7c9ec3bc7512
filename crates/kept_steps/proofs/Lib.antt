pub mod Soundness
pub mod Sentences
