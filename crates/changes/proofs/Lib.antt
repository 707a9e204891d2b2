-- Laws that proofs of functions cite, here and above: the state at an op.
pub mod Calling
