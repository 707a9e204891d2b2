pub mod Places
pub mod Entries
pub mod Answers
pub mod Faithful
