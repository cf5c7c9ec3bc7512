pub mod Layout
pub mod Conflicts
pub mod Analysis
