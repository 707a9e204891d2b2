-- `sprint::sprint` meets its contract.
-- Assumes nothing.
use Rattle.sprint.proofs.Loop.{Runs}
use Rattle.sprint.proofs.sprint.Given as goal

abbrev pub invariant-loop-place : goal.invariant-loop-place
invariant-loop-place l =
    Runs l.context l.turned l.marks l.initial.place.pc l.initial.place.left l.initial.values l.initial.words l.place.pc l.place.left l.values l.words

abbrev pub decreases-loop-place : goal.decreases-loop-place
decreases-loop-place l = l.place.left
