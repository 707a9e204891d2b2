-- Laws that proofs in the crates above cite: a decision applied, to the control and to the registers.
pub mod Applied
