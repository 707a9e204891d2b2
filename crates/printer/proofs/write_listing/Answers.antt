-- `printer::write_listing` meets its contract. One part behind the other.
-- Assumes nothing.
use Prim.Native.Nat.{◌≤◌}
use mathlib.Core.Path.{◌≡◌, sym, ◌∙◌}
use native.Mathlib.Omega.{arith}
use lib.ListN.{length, take}
use lib.Seq.{length-take-le}
use borrow.Author.Rules.{rules}
use Rattle.model.specs.Numbers.{letter_r, letter_w, register_count}
use Rattle.model.specs.Record.{State}
use Rattle.model.specs.Listing.{entry_lines}
use Rattle.texts.specs.Inner.Sight.{control_seen, bank_seen}
use Rattle.texts.proofs.Listing.{head_for_most, entries_most, entries_taken, listing_banks}
use Rattle.printer.specs.Inner.Placing.{state_with}
use Rattle.printer.proofs.Places.{placed_then}
use Rattle.printer.proofs.write_listing.Goals as goal
use Rattle.printer.proofs.write_listing.Goals.{After-write_head-at, Start}

-- The state that is listed.
abbrev state : Start → State
state start = state_with start.args.machine start.args.words.now start.args.marks.now

-- There are sixteen registers, with a label each.
marked : (start : Start) → length start.args.machine.registers.labels ≡ register_count
marked start = search rules

sixteen : (start : Start) → length start.args.machine.registers.values ≡ register_count
sixteen start = search rules

-- They end within 342 bytes.
head_place : (c : After-write_head-at) → c.write_head-at.result ≤ 342
head_place c =
    omega (
      arith,
      c.write_head-at.ensures.place,
      head_for_most (control_seen c.args.viewer c.args.machine.control),
    )

pub write_entries-at-requires : goal.write_entries-at-requires
write_entries-at-requires c =
    let start = (goal.at.write_entries-at-requires c).Start in
    record {
      labelled = marked start ∙ sym (sixteen start);
      short = omega (arith, sixteen start, head_place (goal.at.write_entries-at-requires c).After-write_head-at);
    }

-- Words and marks are as many as the size.
lent_part : (start : Start) → (length (take start.args.machine.fixed.size start.args.words.now) ≡ start.args.machine.fixed.size)
    × (length (take start.args.machine.fixed.size start.args.marks.now) ≡ start.args.machine.fixed.size)
lent_part start = (length-take-le _ _ start.requires.enough, length-take-le _ _ start.requires.labelled)

pub write_entries-requires : goal.write_entries-requires
write_entries-requires c =
    let start = (goal.at.write_entries-requires c).Start in
    record {
      labelled = (lent_part start).1 ∙ sym (lent_part start).0;
      short =
          omega (
            arith,
            (lent_part start).0,
            head_place (goal.at.write_entries-requires c).After-write_head-at,
            c.write_entries-at.ensures.place,
            entries_most letter_r (bank_seen start.args.viewer (state start).registers) 0 (length start.args.machine.registers.values),
            sixteen start,
            start.requires.most,
          );
    }

pub returns : goal.returns
returns c =
    let start = (goal.at.returns c).Start in
    let viewer = start.args.viewer in
    let s = state start in
    rw (listing_banks viewer s start.requires.most)
    (placed_then {b = entry_lines letter_w (bank_seen viewer s.memory) 0 s.fixed.size}
    (placed_then {b = entry_lines letter_r (bank_seen viewer s.registers) 0 register_count} c.write_head-at.ensures
    (rw (sixteen start) at c.write_entries-at.ensures))
    (rw ((lent_part start).0, entries_taken viewer letter_w s.fixed.size start.args.words.now start.args.marks.now) at c.write_entries.ensures))
