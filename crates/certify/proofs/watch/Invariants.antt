-- `certify::watch` meets its contract.
-- Assumes nothing.
use Rattle.model.specs.Record.{state_from}
use Rattle.certify.proofs.Watching.{Watching}
use Rattle.certify.proofs.watch.Given as goal

abbrev pub invariant-loop-left : goal.invariant-loop-left
invariant-loop-left l =
    Watching l.label (state_from l.fixed l.initial.control l.initial.registers.values l.initial.registers.labels l.initial.words l.marks) l.fixed l.control l.registers.values l.registers.labels l.words l.marks l.found l.left

abbrev pub decreases-loop-left : goal.decreases-loop-left
decreases-loop-left l =
    l.left
