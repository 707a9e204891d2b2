-- What the public promise cites.
pub mod Decisions
-- What only the contracts of inner functions cite.
pub mod Inner
