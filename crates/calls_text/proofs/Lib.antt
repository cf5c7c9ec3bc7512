pub mod Cursors
pub mod Lengths
pub mod Examples
