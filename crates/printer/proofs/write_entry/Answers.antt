-- `printer::write_entry` meets its contract. The line of an entry that is seen and that differs.
-- Assumes nothing.
use mathlib.Core.Path.{sym, ◌∙◌}
use Rattle.texts.proofs.Listing.{entry_seen_lem}
use Rattle.printer.proofs.Places.{placed_none}
use Rattle.printer.proofs.write_entry.Goals as goal

pub returns-then-is_listed : goal.returns-then-is_listed
returns-then-is_listed c =
    rw (entry_seen_lem _ _ _ _ _, sym c.is_listed.ensures ∙ c.if-is_listed.true)
    (rw c.entry_fields.ensures at c.write_line_at.ensures)

pub returns-else-is_listed : goal.returns-else-is_listed
returns-else-is_listed c = rw (entry_seen_lem _ _ _ _ _, sym c.is_listed.ensures ∙ c.if-is_listed.false) (placed_none _ _)
