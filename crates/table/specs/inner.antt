pub mod Layout
pub mod Entries
pub mod Conflicts
pub mod Analysis
