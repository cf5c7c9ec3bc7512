pub mod Packing
pub mod Records
pub mod Exports
pub mod Kept
pub mod KeptHistories
pub mod inner
