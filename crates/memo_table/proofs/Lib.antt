pub mod Entries
pub mod JoinedLists
pub mod Tallying
