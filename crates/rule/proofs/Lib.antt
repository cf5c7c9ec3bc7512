pub mod Signs
pub mod Bodies
pub mod Agreements
