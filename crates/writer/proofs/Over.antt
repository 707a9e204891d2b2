-- Text written over the beginning of an output: one byte, one text behind another, and the part of the output that is lent
-- from the cursor on.
-- Assumes nothing.
use Prim.Native.Nat.{ℕ, suc, ◌+◌, ◌-◌, ◌<◌}
use mathlib.Core.Path.{◌≡◌, refl, sym, ap, ◌∙◌}
use mathlib.Core.List.{List, [], ◌∷◌, ◌++◌, append_assoc, append-nil}
use native.Mathlib.Omega.{arith}
use lib.ListN.{length, take, drop, get_or, set, length-append, length-drop, drop_of_length-le}
use lib.Seq.{take_all, take_at, drop_at, drop-drop, drop-cons, set_split, set_at}
use borrow.Rule.Slice.PartMut.{put_mid}
use Rattle.writer.specs.Writing.{over}
use Rattle.writer.specs.Inner.Wrote.{Wrote}

-- The part of an output from `at` on, as it is lent.
abbrev pub rest : ℕ → List ℕ → List ℕ
rest at out = take (length out - at) (drop at out)

-- It is what lies from there on.
rest_is : (at : ℕ) (out : List ℕ) → rest at out ≡ drop at out
rest_is at out = take_all (length out - at) (drop at out) (simp length-drop (omega arith))

-- The output with the part back in its place.
back_is : (at : ℕ) (out part : List ℕ) → put_mid at (length out - at) out part ≡ take at out ++ part
back_is at out part =
    rw (drop_of_length-le (drop at out) {i = length out - at} (simp length-drop (omega arith)), append-nil)

-- Nothing written.
pub wrote_none : (out : List ℕ) → Wrote [] out 0 out
unfolding over
wrote_none out = record { fits = omega arith; count = refl; output = refl }

-- Writing changes no length.
pub wrote_length : {text out after : List ℕ} {n : ℕ} → Wrote text out n after → length after ≡ length out
unfolding over
wrote_length {text} {out} w = rw w.output (simp (length-append, length-drop) (omega (arith, w.fits)))

-- One byte.
pub wrote_byte : (b : ℕ) (out : List ℕ) → 0 < length out → Wrote (b ∷ []) out 1 (set out 0 b)
unfolding over
wrote_byte b out h = record { fits = h; count = refl; output = set_split out 0 b h }

-- What is left of the output behind a text.
pub wrote_rest : {text out after : List ℕ} {n : ℕ} → Wrote text out n after → drop n after ≡ drop n out
unfolding over
wrote_rest {text} {out} {after} {n} w =
    rw w.output
    (drop_at text _ n (sym w.count) ∙ ap (λ (i : ℕ). drop i out) (sym w.count))

-- The text itself.
pub wrote_text : {text out after : List ℕ} {n : ℕ} → Wrote text out n after → take n after ≡ text
unfolding over
wrote_text {text} {out} {after} {n} w = rw w.output (take_at text _ n (sym w.count))

-- How much of the output is left to write on.
pub wrote_room : {text out after : List ℕ} {n : ℕ} → Wrote text out n after → length (rest n after) ≡ length out - n
wrote_room {text} {out} {after} {n} w = rw (rest_is, length-drop, wrote_length w)

-- A text, and another in the part that is lent behind it.
pub wrote_then : {a b out mid part : List ℕ} {n k : ℕ} → Wrote a out n mid → Wrote b (rest n mid) k part
    → Wrote (a ++ b) out (n + k) (put_mid n (length mid - n) mid part)
unfolding over
wrote_then {a} {b} {out} {mid} {part} {n} {k} v w =
    let l = wrote_room v in
    record {
      fits = simp length-append (omega (arith, v.fits, v.count, w.fits));
      count = simp length-append (omega (arith, v.count, w.count));
      output =
          rw (back_is, wrote_text v, w.output, rest_is n mid, wrote_rest v, drop-drop, v.count, length-append, append_assoc);
    }

-- A text, and a byte behind it.
pub wrote_last : {a out mid : List ℕ} {n : ℕ} (b : ℕ) → Wrote a out n mid → n < length out
    → Wrote (a ++ (b ∷ [])) out (n + 1) (set mid n b)
unfolding over
wrote_last {a} {out} {mid} {n} b w h =
    let j : length (a ++ (b ∷ [])) ≡ suc n = simp length-append (omega (arith, w.count)) in
    record {
      fits = simp length-append (omega (arith, w.count));
      count = simp length-append (omega (arith, w.count));
      output =
          ap (λ (xs : List ℕ). set xs n b)
          (w.output ∙ ap (λ (i : ℕ). a ++ drop i out) (sym w.count) ∙ ap (λ (xs : List ℕ). a ++ xs) (drop-cons out n 0 h))
          ∙ set_at a (get_or out n 0) (drop (suc n) out) b n (sym w.count)
          ∙ rw (j, append_assoc);
    }
