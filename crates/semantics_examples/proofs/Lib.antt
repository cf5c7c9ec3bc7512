pub mod Check
pub mod Computing
pub mod Valuations
pub mod Memo
pub mod Tables
