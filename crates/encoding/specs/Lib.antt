pub mod Encode
pub mod Diagnosis
pub mod Faithful
