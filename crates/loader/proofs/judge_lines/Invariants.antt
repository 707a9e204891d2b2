-- `loader::judge_lines` meets its contract: the verdict on the lines that are left is the verdict on all, and with their
-- words those of all lines are kept. Each turn takes a line, of a byte at least.
-- Assumes nothing.
use Prim.Native.Nat.{◌-◌}
use lib.ListN.{length}
use Rattle.machine_record.specs.Struct.{record_of}
use Rattle.loader.proofs.Reading.{Judged, Kept}
use Rattle.loader.proofs.judge_lines.Given as goal

abbrev pub invariant-loop-at : goal.invariant-loop-at
invariant-loop-at l =
    Judged l.text l.start (record_of l.initial.machine) (record_of l.machine) l.last l.at l.number
    × Kept l.text l.start l.initial.words l.initial.labels l.words l.labels l.at

abbrev pub decreases-loop-at : goal.decreases-loop-at
decreases-loop-at l = length l.text - l.at
