-- `writer::put_number` meets its contract. The digits of what is left and those that stand make the number.
-- Assumes nothing.
use Rattle.writer.proofs.Spelled.{Spelled}
use Rattle.writer.proofs.put_number.Given as goal

abbrev pub invariant-loop-at : goal.invariant-loop-at
invariant-loop-at l = Spelled l.n l.initial.out l.out l.at l.rest
