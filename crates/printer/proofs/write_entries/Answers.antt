-- `printer::write_entries` meets its contract. The lines of the entries passed are written.
-- Assumes nothing.
use Rattle.std.proofs.Common.{ℕ, ◌<◌, ◌≡◌, length, get_or, arith}
use Rattle.std.proofs.lemmas.List.{length_push}
use Rattle.std.proofs.lemmas.Iterator.{YieldsList-from_slice, YieldsList-from_zip}
use Rattle.std.proofs.lemmas.Iterator.Consumers.{YieldsList-at, YieldsList-from_enumerate, YieldsList-turn}
use Rattle.model.specs.Seen.{Seen}
use Rattle.model.specs.Listing.{entry_for, entry_lines}
use Rattle.model.specs.Record.{lent}
use Rattle.texts.specs.Inner.Sight.{bank_seen}
use Rattle.texts.proofs.Listing.{entries_more, entries_most}
use Rattle.printer.proofs.Places.{placed_none, placed_then}
use Rattle.printer.proofs.Entries.{turned}
use Rattle.printer.proofs.write_entries.Goals as goal
use Rattle.printer.proofs.write_entries.Goals.{Start, In-Some}

-- What the viewer sees of the entries.
abbrev sight : Start → ℕ → Seen
sight start = bank_seen start.args.viewer (lent start.args.values.now start.args.labels.now)

pub loop-number-init : goal.loop-number-init
unfolding entry_lines
loop-number-init c = placed_none _ _

-- The entry that the loop has come to is the next of the bank.
turn : (c : In-Some)
    → let k = length c.loop-number.yielded in
    (k < length c.args.values.now) × (c.in-Some.number ≡ k)
    × (c.in-Some.value.now ≡ get_or c.args.values.now k 0) × (c.in-Some.label.now ≡ get_or c.args.labels.now k 0)
turn c =
    turned c.args.values.now c.args.labels.now _ _ _ _ c.requires.labelled
    (YieldsList-turn
    (YieldsList-at c.into_iter-number-iterator.ensures.into_iter_gives
    (YieldsList-from_enumerate
    (YieldsList-at c.enumerate-number-items.ensures.source
    (YieldsList-from_zip (YieldsList-at c.zip.ensures.first (YieldsList-from_slice c.args.values.now cc)) (YieldsList-from_slice c.args.labels.now cc)))
    c.enumerate-number-items.ensures.count))
    c.loop-number.yielded c.loop-number.number-iterator c.loop-number.yielded_by c.next.result c.next.new.self (c.in-Some.number, (c.in-Some.value, c.in-Some.label)) c.in-Some.is c.next.ensures.steps)

pub write_entry-at-requires : goal.write_entry-at-requires
write_entry-at-requires c =
    let t = turn (goal.at.write_entry-at-requires c).In-Some in
    omega (
      arith,
      t.0,
      c.loop-number.invariant.place,
      c.requires.short,
      entries_most c.args.letter (sight (goal.at.write_entry-at-requires c).Start) 0 (length c.loop-number.yielded),
    )

pub loop-number-preserved : goal.loop-number-preserved
loop-number-preserved c =
    let t = turn (goal.at.loop-number-preserved c).In-Some in
    let f = sight (goal.at.loop-number-preserved c).Start in
    let k = length c.loop-number.yielded in
    rw (length_push c.loop-number.yielded _, entries_more c.args.letter f k)
    (placed_then {b = entry_for c.args.letter k (f k)} c.loop-number.invariant
    (rw (t.1, t.2, t.3) at c.write_entry-at.ensures))
