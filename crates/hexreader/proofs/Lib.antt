-- What the functions keep and their answers; and laws of bytes, which other crates may cite.
mod Laws
pub mod Bytes
