-- `hexloader::records::judge_records` meets its contract: the verdict on the records that are left is the verdict on all.
-- Each turn takes a record, of two bytes at least.
-- Assumes nothing.
use Prim.Native.Nat.{◌-◌}
use lib.ListN.{length}
use Rattle.hexloader.specs.Inner.Places.{numbers_of}
use Rattle.hexloader.proofs.Judging.{Judging}
use Rattle.hexloader.proofs.records.judge_records.Given as goal

abbrev pub invariant-loop-at : goal.invariant-loop-at
invariant-loop-at l = Judging l.hex (numbers_of l.initial.places) (numbers_of l.places) l.at l.line

abbrev pub decreases-loop-at : goal.decreases-loop-at
decreases-loop-at l = length l.hex - l.at
