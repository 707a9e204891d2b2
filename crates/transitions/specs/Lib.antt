-- What the public promises cite.
pub mod Transitions
-- What only laws cite.
pub mod Inner
