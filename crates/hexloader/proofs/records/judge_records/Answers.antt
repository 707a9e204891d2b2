-- `hexloader::records::judge_records` meets its contract: the verdict on the records that are left is the verdict on all.
-- Each turn takes a record, of two bytes at least.
-- Assumes nothing.
use mathlib.Core.Path.{◌≡◌, refl}
use native.Mathlib.Omega.{arith}
use Rattle.std.specs.Prelude.{Option, Some, None}
use Rattle.texts.proofs.Text.{part}
use Rattle.hexreader.specs.declared.Found.{Found}
use Rattle.hexreader.specs.declared.Found.TheVariants.{Data, End}
use Rattle.hexloader.proofs.Judging.{At, read_at, found_is, data_moves, data_fits, judging_none, judging_end, judging_bad, judging_last, judging_behind, judging_more, judging_refused, handed_on}
use Rattle.hexloader.proofs.records.judge_records.Goals as goal
use Rattle.hexloader.proofs.records.judge_records.Goals.{After-read_record-read, In-Data, In_default-found}

pub loop-at-init : goal.loop-at-init
loop-at-init c = judging_none _ _

-- The record that was read.
record_at : (c : After-read_record-read) → At c.args.hex.now c.loop-at.at c.read_record-read.result
record_at c = read_at c.args.hex.now c.loop-at.at c.read_record-read.result c.loop-at-test.true c.read_record-read.ensures

pub overflow_add-next : goal.overflow_add-next
overflow_add-next c = omega (arith, (record_at (goal.at.overflow_add-next c).After-read_record-read).within)

-- ---- a bad record

nothing : (f : Option Found) → ((x : Found) → f ≡ Some x → ⊥) → f ≡ None
nothing None h = refl
nothing (Some x) h = absurd (h x refl)

pub returns-in_default : goal.returns-in_default
returns-in_default c =
    rw c.malformed.ensures
    (judging_bad c.loop-at.invariant (record_at (goal.at.returns-in_default c).After-read_record-read) (nothing _ c.in_default.not-Some))

-- ---- the end

is_end : (c : In_default-found) → c.read_record-read.result.found ≡ Some End
is_end c = found_is c.read_record-read.result _ _ c.in-Some.is c.in_default-found.is

pub returns-then-next-hex : goal.returns-then-next-hex
returns-then-next-hex c =
    judging_last c.loop-at.invariant (record_at (goal.at.returns-then-next-hex c).After-read_record-read) (is_end (goal.at.returns-then-next-hex c).In_default-found) (omega arith)

pub returns-in_default-found : goal.returns-in_default-found
returns-in_default-found c =
    rw c.malformed-in_default-found.ensures
    (judging_behind c.loop-at.invariant (record_at (goal.at.returns-in_default-found c).After-read_record-read) (is_end (goal.at.returns-in_default-found c).In_default-found)
    (λ e. omega arith))

-- ---- a record with bytes

has_data : (c : In-Data) → c.read_record-read.result.found ≡ Some (Data c.in-Data.address c.in-Data.count)
has_data c = found_is c.read_record-read.result _ _ c.in-Some.is c.in-Data.is

pub give_bytes-requires : goal.give_bytes-requires
give_bytes-requires c =
    rw (part c.loop-at.at c.args.hex.now)
    (data_fits (record_at (goal.at.give_bytes-requires c).After-read_record-read) (has_data (goal.at.give_bytes-requires c).In-Data))

pub returns-in_err-give_bytes : goal.returns-in_err-give_bytes
returns-in_err-give_bytes c =
    rw (handed_on c.from_residual.result _ c.from_residual.ensures.1)
    (judging_refused c.loop-at.invariant (record_at (goal.at.returns-in_err-give_bytes c).After-read_record-read)
    (has_data (goal.at.returns-in_err-give_bytes c).In-Data) _ _
    (rw (part c.loop-at.at c.args.hex.now) at c.in_err-give_bytes.ensures))

pub loop-at-smaller : goal.loop-at-smaller
loop-at-smaller c =
    let read = record_at (goal.at.loop-at-smaller c).After-read_record-read in
    omega (arith, read.within, data_moves read (has_data (goal.at.loop-at-smaller c).In-Data))

pub loop-at-preserved : goal.loop-at-preserved
loop-at-preserved c =
    judging_more c.loop-at.invariant (record_at (goal.at.loop-at-preserved c).After-read_record-read) (has_data (goal.at.loop-at-preserved c).In-Data) _
    (rw (part c.loop-at.at c.args.hex.now) at c.in_ok-give_bytes.ensures)

-- ---- no record is left

pub returns : goal.returns
returns c = rw c.malformed-2.ensures (judging_end c.loop-at.invariant c.loop-at-test.false)
