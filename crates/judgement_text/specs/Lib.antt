pub mod Judgement
pub mod Room
pub mod inner
