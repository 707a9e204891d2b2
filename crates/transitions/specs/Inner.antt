-- What the laws about the public promises cite, and the promises themselves don't.
pub mod Meaning
