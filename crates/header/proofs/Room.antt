-- An accepted first line: its text isn't too long, its machine has no more words than a machine can have, and the lent memory
-- has room for them.
-- Assumes nothing.
use Prim.Native.Nat.{ℕ, ◌≤◌}
use mathlib.Core.Path.{◌≡◌}
use mathlib.Core.Bool.{◌&&◌}
use lib.Dec.{leb}
use lib.ListN.{length}
use borrow.Author.Tests.{leb-true}
use Rattle.causes.specs.declared.Cause.TheVariants.{TextLength}
use Rattle.model.specs.declared.format.Line.{Line}
use Rattle.model.specs.Numbers.{most_words, longest_text}
use Rattle.model.specs.Record.{Bank, Machine}
use Rattle.model.specs.Load.{header_tests, accept, judge_first, judge_header}
use Rattle.model.proofs.Truth.{and_iff}
use Rattle.model.proofs.Ready.{whole_lengths}
use Rattle.model.proofs.Load.{Heads, unless_accept, header_accepts, heads_whole}
use Rattle.texts.proofs.Ranges.{header_range}

-- There is room for the words of a machine.
pub record Room (m : Bank) (r : Machine) : Type 0 where
  pub few : r.fixed.size ≤ most_words
  pub words : r.fixed.size ≤ length m.values
  pub labels : r.fixed.size ≤ length m.labels

-- So there is where the M line has passed its tests.
pub heads_room : {m : Bank} {r : Machine} → Heads m r → Room m r
unfolding header_tests
heads_room {m} {r} a =
    let lent = whole_lengths r.fixed.size m (heads_whole a) in
    record {
      few = rw a.is (header_range a.header a.tests.0).size_fits;
      words = lent.0;
      labels = lent.1;
    }

module _ (bytes : ℕ) (first : Line) (m : Bank) (r : Machine) (e : judge_header bytes first m ≡ accept r) where
  -- So says the verdict.
  pub accepted_room : Room m r
  accepted_room = heads_room (header_accepts bytes first m r e)

  -- And that the text isn't too long.
  pub accepted_short : bytes ≤ longest_text
  unfolding judge_header
  accepted_short =
      let well-sized = (unless_accept (leb 1 bytes && leb bytes longest_text) TextLength 0 (judge_first first m) r e).0 in
      leb-true bytes longest_text ((and_iff (leb 1 bytes) (leb bytes longest_text)).0 well-sized).1
