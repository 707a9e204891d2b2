-- Laws about the whole record.
pub mod Whole
pub mod Faithful
