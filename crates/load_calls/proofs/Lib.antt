-- A law that proofs of calls cite.
pub mod Laws
