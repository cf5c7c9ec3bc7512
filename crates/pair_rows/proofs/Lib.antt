pub mod Shifts
pub mod Products
pub mod Behind
pub mod FirstTokens
pub mod OneRow
pub mod AllRows
