pub mod Laws
pub mod Faithful
