pub mod WorkedFollowing
pub mod Agreeing
pub mod Following
pub mod Theorems
