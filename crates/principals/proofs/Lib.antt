pub mod Subset
pub mod Laws
pub mod Whole
