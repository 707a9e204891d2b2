pub mod Over
pub mod Spelled
pub mod Answer
