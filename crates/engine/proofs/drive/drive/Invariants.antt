-- `engine::drive::drive` meets its contract.
-- Assumes nothing.
use Rattle.engine.proofs.Driving.{Going, ticks_left}
use Rattle.engine.proofs.drive.drive.Given as goal

abbrev pub invariant-loop-live : goal.invariant-loop-live
invariant-loop-live l =
    Going l.fixed l.initial.registers.values l.initial.registers.labels l.initial.words l.marks l.once l.single l.limit l.tick l.initial.live l.registers.values l.registers.labels l.words l.turned l.live

abbrev pub decreases-loop-live : goal.decreases-loop-live
decreases-loop-live l =
    ticks_left l.limit l.live
