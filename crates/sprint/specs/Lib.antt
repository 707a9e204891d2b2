pub mod Skim
-- What the loop is told, and what it promises.
pub mod Sprint
-- What only the contracts of inner functions cite.
pub mod Inner
