pub mod Attempts
pub mod Watch
pub mod Twin
pub mod Certificate
