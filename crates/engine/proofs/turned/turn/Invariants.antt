-- `engine::turned::turn` meets its contract.
-- Assumes nothing.
use Rattle.engine.proofs.Mirroring.{Turning}
use Rattle.engine.proofs.turned.turn.Given as goal

abbrev pub invariant-loop-i : goal.invariant-loop-i
invariant-loop-i l = Turning l.labels l.turned l.i
