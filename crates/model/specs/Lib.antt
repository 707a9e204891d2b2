-- The machine of document 01, in the paper's order: its numbers by name, the record, when it is well-formed, a word of the
-- program, the op table, one step and the run, what the public calls answer, the text and its load, what a label sees, the
-- listing, and what the programs print.
pub mod Numbers
pub mod Record
pub mod WellFormed
pub mod Word
pub mod Ops
pub mod Step
pub mod Answer
pub mod Text
pub mod Load
pub mod Hex
pub mod HexLoad
pub mod Seen
pub mod Listing
pub mod Program
-- ======== Here the definition of the machine ends. Everything else, here and in proofs/, is derived from it. View puts load,
-- the run to a tick and the listing for a label together. PairTest has the step as it was while op 20 tested the pair of its
-- gate, and states that no well-formed record is answered otherwise.
pub mod PairTest
pub mod Facts
pub mod HexFacts
-- The registers as the code holds them, which the layers between cite.
pub mod Registers
pub mod View
pub mod Inner
