pub mod Admission
pub mod Diagnosis
