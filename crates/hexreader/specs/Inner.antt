-- What the contracts of inner functions cite, which the public promises don't.
pub mod Total
pub mod Ends
