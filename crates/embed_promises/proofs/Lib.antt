pub mod Places
pub mod Fitting
pub mod Packed
pub mod Exporting
pub mod RecordRows
pub mod Keeping
pub mod KeptCalls
