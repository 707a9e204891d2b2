pub mod Writing
-- What only the contracts of inner functions cite.
pub mod Inner
