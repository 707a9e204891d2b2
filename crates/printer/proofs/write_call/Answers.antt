-- `printer::write_call` meets its contract. By cases of the call: nothing, or its line.
-- Assumes nothing.
use Rattle.printer.proofs.Places.{placed_none}
use Rattle.printer.proofs.write_call.Goals as goal

pub returns-in-Empty : goal.returns-in-Empty
returns-in-Empty c = rw c.in-Empty.is (placed_none _ _)

pub returns-in-Gate : goal.returns-in-Gate
returns-in-Gate c =
    rw c.in-Gate.is
    (rw c.call_fields.ensures at c.write_line_at.ensures)

pub returns-in-Upcall : goal.returns-in-Upcall
returns-in-Upcall c =
    rw c.in-Upcall.is
    (rw c.call_fields-in-Upcall.ensures at c.write_line_at-in-Upcall.ensures)
