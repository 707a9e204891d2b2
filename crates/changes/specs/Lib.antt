-- What the public promises cite.
pub mod Changes
