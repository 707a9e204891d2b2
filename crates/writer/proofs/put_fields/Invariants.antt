-- `writer::put_fields` meets its contract. The fields passed are written.
-- Assumes nothing.
use lib.ListN.{take}
use Rattle.model.specs.Listing.{fields}
use Rattle.writer.specs.Inner.Wrote.{Wrote}
use Rattle.writer.proofs.put_fields.Given as goal

abbrev pub invariant-loop-n : goal.invariant-loop-n
invariant-loop-n l = Wrote (fields (take l.n-index l.numbers)) l.initial.out l.at l.out
