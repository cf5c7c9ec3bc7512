pub mod Descents
pub mod Tables
pub mod Rows
pub mod Entries
