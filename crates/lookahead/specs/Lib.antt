pub mod Lookaheads
pub mod Elements
pub mod inner
