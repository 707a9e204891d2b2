mod Lists
pub mod Laws
