-- A line from its letter, the fields behind it and what ends it, as the reader finds them.
-- Assumes nothing.
use Rattle.std.proofs.Common.{ℕ, ◌+◌, ◌≤◌, ◌≡◌, Bool, true, false, cond, eqb, Option, Some, None, List, ◌∷◌, ◌++◌, length, drop, get_or, refl, sym, ◌∙◌}
use Rattle.std.specs.Bool.{then_some}
use Rattle.std.specs.Option.{unwrap_or}
use lib.ListN.{replicate, get_or-eq_default}
use Rattle.model.specs.declared.format.Line.{Line}
use Rattle.model.specs.declared.format.Read.{Read}
use Rattle.model.specs.Text.{Fields, read_fields, field_count, line_of, closed, malformed, with_fields, read_line}
use Rattle.texts.proofs.Text.{line_in_front}

module _ {xs rest : List ℕ} {letter : ℕ} (e : xs ≡ letter ∷ rest) where
  -- By the fields behind its letter.
  by_fields : {f : Option Fields} → read_fields (field_count letter) rest ≡ f → read_line xs ≡ with_fields (letter ∷ rest) f
  unfolding read_line
  by_fields g = rw (e, g) refl

  -- A line with a bad field.
  pub bad_fields : read_fields (field_count letter) rest ≡ None → malformed ≡ read_line xs
  bad_fields g = sym (by_fields g)

  module _ {ns : List ℕ} (k : ℕ) {n : ℕ} {l : Line}
      (g : read_fields (field_count letter) rest ≡ Some (record { numbers = ns; bytes = n }))
      (h : l ≡ line_of letter (ns ++ drop k (replicate 6 0)))
    where
      -- What ends it is still to be tested.
      pub to_close : closed xs (1 + n) l ≡ read_line xs
      to_close = sym (by_fields g ∙ rw (e, h, line_in_front letter ns k 6) refl)

      -- A text that ends within the line.
      pub cut_short : length xs ≤ 1 + n → malformed ≡ read_line xs
      cut_short s = rw (get_or-eq_default xs 0 s) at to_close

-- The test of the LF.
tested : (b : Bool) (r : Read) → unwrap_or (then_some b r) malformed ≡ cond b r malformed
tested true r = refl
tested false r = refl

pub closes : (xs : List ℕ) (n b : ℕ) (l : Line) → b ≡ get_or xs n 0
    → unwrap_or (then_some (eqb b 10) (record { line = l; next = n + 1 })) malformed ≡ closed xs n l
closes xs n b l e = rw e (tested (eqb (get_or xs n 0) 10) (record { line = l; next = n + 1 }))
