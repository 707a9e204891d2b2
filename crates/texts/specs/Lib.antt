-- What laws of this crate and inner contracts of those above it cite, and no public promise does.
pub mod Inner
