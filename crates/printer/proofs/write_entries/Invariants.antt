-- `printer::write_entries` meets its contract. The lines of the entries passed are written.
-- Assumes nothing.
use lib.ListN.{length}
use Rattle.model.specs.Listing.{entry_lines}
use Rattle.printer.specs.Inner.Placing.{Placed}
use Rattle.model.specs.Record.{lent}
use Rattle.texts.specs.Inner.Sight.{bank_seen}
use Rattle.printer.proofs.write_entries.Given as goal

abbrev pub invariant-loop-number : goal.invariant-loop-number
invariant-loop-number l =
    Placed (entry_lines l.letter (bank_seen l.viewer (lent l.values l.labels)) 0 (length l.yielded)) l.initial.out l.start l.at l.out
