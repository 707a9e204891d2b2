-- Laws that proofs of functions cite, here and above: the tick of a pace, what a well-formed record has of what the steps
-- ask, and which decisions leave labels.
pub mod Ticks
pub mod Fitting
pub mod Keeping
