pub mod Stride
pub mod Advance
-- What only the contracts of inner functions cite.
pub mod Inner
