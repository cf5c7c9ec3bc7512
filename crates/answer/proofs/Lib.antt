pub mod Apart
pub mod Faults
