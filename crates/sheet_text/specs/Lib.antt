pub mod Sheet
pub mod Room
pub mod inner
