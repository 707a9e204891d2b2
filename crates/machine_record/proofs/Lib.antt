-- Laws about the record.
mod Gates
pub mod Faithful
pub mod Places
