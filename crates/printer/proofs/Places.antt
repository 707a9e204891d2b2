-- Texts put into an output one behind the other, each at the place where the one before it ended, or only measured.
-- Assumes nothing.
use Prim.Native.Nat.{ℕ, ◌+◌, ◌-◌, ◌<◌, ◌≤◌}
use mathlib.Core.Path.{◌≡◌, sym, ap, ◌∙◌}
use mathlib.Core.List.{List, [], ◌++◌, append_assoc, append-nil}
use native.Mathlib.Omega.{arith}
use lib.ListN.{length, take, drop, length-append, take-append-drop}
use lib.Seq.{drop-drop, length-take-le}
use borrow.Author.Tests.{le-leb}
use borrow.Rule.Slice.PartMut.{put_mid}
use Rattle.writer.specs.Writing.{over, Writing, answer, written}
use Rattle.writer.specs.Inner.Wrote.{Wrote}
use Rattle.writer.proofs.Over.{rest, wrote_length, wrote_text, wrote_rest, wrote_room, wrote_then}
use Rattle.printer.specs.Inner.Placing.{Placed}

-- What stands before a place is as if it had been written there.
wrote_before : (at : ℕ) (out : List ℕ) → at ≤ length out → Wrote (take at out) out at out
unfolding over
wrote_before at out h =
    let l : length (take at out) ≡ at = length-take-le at out h in
    record { fits = omega arith; count = sym l; output = sym (rw l (take-append-drop at out)) }

-- No text.
pub placed_none : (at : ℕ) (out : List ℕ) → Placed [] out at at out
placed_none at out = record { place = omega arith; output = λ h. rw append-nil (wrote_before at out h) }

-- A text that was written over the beginning, and one behind it.
wrote_on : {a out mid after : List ℕ} (b : List ℕ) {n k : ℕ} → Wrote a out n mid → Wrote (take n mid ++ b) mid k after
    → Wrote (a ++ b) out k after
unfolding over
wrote_on {a} {out} {mid} b {n} v w =
    let on : Wrote (a ++ b) mid _ _ = rw (wrote_text v) at w in
    let l : length (a ++ b) ≡ n + length b = simp length-append (omega (arith, v.count)) in
    let behind : drop (n + length b) mid ≡ drop (n + length b) out =
    sym (drop-drop (length b) n mid) ∙ ap (drop (length b)) (wrote_rest v) ∙ drop-drop (length b) n out in
    record {
      fits = omega (arith, on.fits, wrote_length v);
      count = on.count;
      output = on.output ∙ rw (l, behind);
    }

-- One text behind another.
pub placed_then : {a b out mid after : List ℕ} {at n k : ℕ} → Placed a out at n mid → Placed b mid n k after
    → Placed (a ++ b) out at k after
placed_then {a} {b} {out} {at = at} v w =
    record {
      place = simp length-append (omega (arith, v.place, w.place));
      output =
          λ h.
          let v' = v.output (omega (arith, v.place, w.place)) in
          rw (← append_assoc) (wrote_on b v' (w.output (omega (arith, wrote_length v'))));
    }

-- A text that the line writer was given the rest for.
pub placed_rest : (text out : List ℕ) (at : ℕ) {count : ℕ} {part : List ℕ} → at ≤ length out
    → answer count part ≡ written text (rest at out) → Placed text out at (at + count) (put_mid at (length out - at) out part)
unfolding written
placed_rest text out at h e =
    let c = ap (λ (a : Writing). a.count) e in
    let o = ap (λ (a : Writing). a.output) e in
    let r = wrote_room (wrote_before at out h) in
    record {
      place = ap (λ (n : ℕ). at + n) c;
      output =
          λ g.
          let f : length text ≤ length (rest at out) = omega arith in
          wrote_then (wrote_before at out h)
          (record { fits = f; count = c; output = rw (le-leb (length text) (length (rest at out)) f) at o });
    }

-- One that it was given no rest for.
pub placed_beyond : (text out none : List ℕ) (at : ℕ) {count : ℕ} {part after : List ℕ} → length out < at
    → answer count part ≡ written text none → Placed text out at (at + count) after
unfolding written
placed_beyond text out none at h e =
    record { place = ap (λ (a : Writing). at + a.count) e; output = λ g. absurd (omega arith) }
