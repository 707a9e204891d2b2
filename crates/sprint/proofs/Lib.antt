-- Laws that the functions' proofs cite: the numbers of ops, a turn of the hot loop, and the loop.
pub mod Numbering
pub mod Turning
pub mod Loop
pub mod LoopForward
