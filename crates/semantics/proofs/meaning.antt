pub mod Nullable
pub mod LeftRecursion
pub mod Rank
pub mod Unique
pub mod OneMore
