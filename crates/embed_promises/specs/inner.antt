pub mod Packing
pub mod Records
pub mod Kept
