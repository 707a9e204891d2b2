-- Laws that proofs of functions cite, here and above: the control while the machine runs.
pub mod Frames
