-- `hexloader::records::give_bytes` meets its contract: before turn i the first i bytes are given.
-- Assumes nothing.
use Prim.Native.Nat.{◌<◌}
use mathlib.Core.Path.{sym, ap, ◌∙◌}
use native.Mathlib.Omega.{arith}
use lib.ListN.{length}
use Rattle.hexloader.specs.Inner.Places.{number_of}
use Rattle.hexloader.proofs.Giving.{free_within, data_count, data_number, giving_none, giving_more, giving_refused, giving_end}
use Rattle.hexloader.proofs.records.give_bytes.Invariants.{given}
use Rattle.hexloader.proofs.records.give_bytes.Goals as goal
use Rattle.hexloader.proofs.records.give_bytes.Goals.{In-loop-i}

pub loop-i-init : goal.loop-i-init
loop-i-init c = giving_none _ _ _ _

-- There is a byte for this turn.
more : (c : In-loop-i) → c.loop-i.i < length (given c.args.text.now c.args.count)
more c = omega (arith, data_count c.args.text.now c.args.count c.requires, c.loop-i-test.true)

pub returns-then-not-is_free : goal.returns-then-not-is_free
returns-then-not-is_free c =
    giving_refused c.loop-i.invariant (more (goal.at.returns-then-not-is_free c).In-loop-i) (sym c.is_free.ensures ∙ c.if-not-is_free.true)

pub bounds-places-at : goal.bounds-places-at
bounds-places-at c = free_within c.loop-i.places _ (sym c.is_free.ensures ∙ c.if-not-is_free.false)

pub loop-i-preserved : goal.loop-i-preserved
loop-i-preserved c =
    giving_more c.loop-i.invariant _ (more (goal.at.loop-i-preserved c).In-loop-i)
    (sym c.is_free.ensures ∙ c.if-not-is_free.false)
    (ap number_of c.byte_at.ensures ∙ data_number c.args.text.now c.args.count c.requires c.loop-i.i c.loop-i-test.true)

pub returns : goal.returns
returns c =
    giving_end c.loop-i.invariant (omega (arith, data_count c.args.text.now c.args.count c.requires, c.loop-i-test.false))
