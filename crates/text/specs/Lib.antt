pub mod Ascii
pub mod Decimal
pub mod Writing
pub mod inner
