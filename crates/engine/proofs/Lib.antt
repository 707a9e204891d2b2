-- Laws that the proofs of the functions cite: common ops skimmed, what is decided where the hot loop stops, and the steps in
-- turn.
pub mod Skimming
pub mod Settling
pub mod Driving
mod Mirroring
