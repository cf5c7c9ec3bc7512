pub mod Labels
pub mod Writer
pub mod Room
