pub mod Events
pub mod Unknown
