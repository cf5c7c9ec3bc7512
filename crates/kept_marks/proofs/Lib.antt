pub mod Lists
pub mod Storing
pub mod Holding
pub mod Stepping
pub mod Worked
