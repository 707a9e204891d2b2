-- What laws cite, and of the statements PairTest's. No definition of the machine does, nor does the theorem.
pub mod Typed
