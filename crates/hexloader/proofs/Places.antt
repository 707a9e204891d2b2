-- What stands in the places: whether a byte is given to one, which byte, and whether one is given to a word.
-- Assumes nothing.
use Prim.Native.Nat.{ℕ, ◌+◌, ◌*◌, ◌%◌, ◌≤◌, ◌<◌}
use mathlib.Core.Path.{◌≡◌, refl, sym, ap, ◌∙◌}
use mathlib.Core.Bool.{Bool, true, false, ◌||◌}
use mathlib.Core.List.{List, ◌∷◌}
use native.Mathlib.Nat.{mod-lt, mod-eq_of_lt}
use native.Mathlib.Numerals.{add-one}
use native.Mathlib.Omega.{arith}
use lib.Dec.{ltb, eqb, lit<}
use lib.ListN.{length, take, drop, get_or, get_or-eq_default}
use lib.Seq.{drop-cons}
use borrow.Author.Tests.{lt-ltb, ne_eqb}
use Rattle.std.specs.Prelude.{Option, Some, None, unwrap_or, is_some, not}
use Rattle.std.specs.List.{list_any}
use Rattle.std.proofs.lemmas.Bool.{false≢true}
use Rattle.std.proofs.lemmas.List.{get_or-map, length-map}
use Rattle.model.specs.HexLoad.{is_free, byte_at, is_given, has_byte}
use Rattle.hexloader.specs.Inner.Places.{number_of, numbers_of}

-- The number of a place in memory.
number_at : (places : List (Option ℕ)) (at d : ℕ) → at < length places → get_or (numbers_of places) at d ≡ number_of (get_or places at None)
number_at places at d h = get_or-map number_of places at None d h

-- ---- one place

-- The byte that is given to it, or 0.
pub byte_given : (places : List (Option ℕ)) (at b : ℕ) → at < length places → b < 256 → b ≡ unwrap_or (get_or places at None) 0
    → b ≡ byte_at (numbers_of places) at
unfolding byte_at
byte_given places at b h l e = told (get_or places at None) e ∙ sym (ap (λ (n : ℕ). n % 256) (number_at places at 256 h))
  where
    told : (place : Option ℕ) → b ≡ unwrap_or place 0 → b ≡ number_of place % 256
    told (Some x) e = rw (← e, mod-eq_of_lt l, mod-eq_of_lt l)
    told None e = e

-- Whether one is.
given_at : (places : List (Option ℕ)) (at : ℕ) → at < length places → is_some (get_or places at None) ≡ is_given (numbers_of places) at
unfolding is_given
given_at places at h = told (get_or places at None) ∙ sym (ap (λ (n : ℕ). ltb n 256) (number_at places at 256 h))
  where
    told : (place : Option ℕ) → is_some place ≡ ltb (number_of place) 256
    told (Some x) = sym (lt-ltb (x % 256) 256 (mod-lt x (lit< tt)))
    told None = refl

-- It is free where none is.
pub free_at : (places : List (Option ℕ)) (at : ℕ) (free : Bool) → at < length places → is_some (get_or places at None) ≡ not free
    → free ≡ is_free (numbers_of places) at
unfolding is_free
free_at places at free h e = told (get_or places at None) free e ∙ sym (ap (λ (n : ℕ). eqb n 256) (number_at places at 0 h))
  where
    told : (place : Option ℕ) (free : Bool) → is_some place ≡ not free → free ≡ eqb (number_of place) 256
    told (Some x) true e = absurd (false≢true (sym e))
    told (Some x) false e = let l : x % 256 < 256 = mod-lt x (lit< tt) in rw (ne_eqb (x % 256) 256 (λ q. omega arith))
    told None true e = refl
    told None false e = absurd (false≢true e)

-- Behind memory none is free.
pub none_free : (places : List (Option ℕ)) (at : ℕ) → length places ≤ at → false ≡ is_free (numbers_of places) at
unfolding is_free
none_free places at h =
    let l : length (numbers_of places) ≤ at = rw (length-map places number_of) h in rw (get_or-eq_default (numbers_of places) 0 l)

-- ---- a word

-- One of its four places has a byte.
pub word_given : (places : List (Option ℕ)) (k : ℕ) → 4 * (k + 1) ≤ length places
    → list_any is_some (take 4 (drop (4 * k) places)) ≡ has_byte (numbers_of places) k
unfolding has_byte
word_given places k h =
    let b : drop (4 * k + 1) places ≡ get_or places (4 * k + 1) None ∷ drop (4 * k + 2) places = next (4 * k + 1) (4 * k + 2) (omega arith) (omega arith) in
    let c : drop (4 * k + 2) places ≡ get_or places (4 * k + 2) None ∷ drop (4 * k + 3) places = next (4 * k + 2) (4 * k + 3) (omega arith) (omega arith) in
    let d : drop (4 * k + 3) places ≡ get_or places (4 * k + 3) None ∷ drop (4 * k + 4) places = next (4 * k + 3) (4 * k + 4) (omega arith) (omega arith) in
    rw (next (4 * k) (4 * k + 1) (omega arith) (omega arith), b, c, d, given_at places (4 * k) (omega arith), given_at places (4 * k + 1) (omega arith), given_at places (4 * k + 2) (omega arith), given_at places (4 * k + 3) (omega arith))
    (last (is_given (numbers_of places) (4 * k)) (is_given (numbers_of places) (4 * k + 1)) (is_given (numbers_of places) (4 * k + 2)) (is_given (numbers_of places) (4 * k + 3)))
  where
    next : (i j : ℕ) → i < length places → j ≡ i + 1 → drop i places ≡ get_or places i None ∷ drop j places
    next i j l e = rw (e, add-one i) (drop-cons places i None l)

    last : (w x y z : Bool) → (w || (x || (y || (z || false)))) ≡ (w || x || y || z)
    last true x y z = refl
    last false true y z = refl
    last false false true z = refl
    last false false false true = refl
    last false false false false = refl
