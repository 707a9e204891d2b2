-- Laws that the functions' proofs cite.
pub mod Unknown
pub mod Deciding
