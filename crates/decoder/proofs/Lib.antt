mod Lists
mod Laws
pub mod RoundTrip
