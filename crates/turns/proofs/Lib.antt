-- Laws that the functions' proofs cite: a register that is assigned, label checks over turned labels, the fields of a word,
-- and the ticks of ops.
pub mod Assigning
pub mod Checks
pub mod Fields
pub mod Ticks
