pub mod WithoutPositives
pub mod Admitted
pub mod AdmissionErrors
pub mod Beginnings
pub mod Diagnosed
pub mod OneDiagnosis
