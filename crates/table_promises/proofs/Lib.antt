pub mod Words
pub mod FirstClash
pub mod GrammarFaults
