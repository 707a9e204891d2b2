-- Laws of the definitions of a text: a part of it as a list, its digits, and how many bytes a field, fields and a line
-- take.
-- Assumes nothing.
use Prim.Native.Nat.{ℕ, zero, suc, ◌+◌, ◌-◌, ◌≤◌, ◌<◌}
use mathlib.Core.Path.{◌≡◌, refl, sym, ap, ◌∙◌, subst}
use mathlib.Core.Logic.{⊎_elim}
use mathlib.Core.Bool.{Bool, true, false, cond}
use mathlib.Core.List.{List, [], ◌∷◌, ◌++◌}
use native.Mathlib.Nat.{le_refl}
use native.Mathlib.Numerals.{add-one}
use native.Mathlib.Omega.{arith}
use borrow.Author.Tests.{ltb-true, ltb-false, leb-true, eqb-true}
use lib.Dec.{ltb, leb, eqb}
use lib.ListN.{length, take, drop, get_or, replicate, length-drop, drop_of_length-le, get_or-eq_default}
use lib.Seq.{take_all, drop-cons, get_or-drop}
use Rattle.std.specs.Prelude.{Option, Some, None}
use Rattle.model.specs.declared.format.Number.{Number}
use Rattle.model.specs.declared.format.Line.{Line}
use Rattle.model.specs.declared.format.Line.TheVariants.{Malformed}
use Rattle.model.specs.declared.format.Read.{Read}
use Rattle.model.specs.Numbers.{letter_m, letter_g, letter_r, letter_w}
use Rattle.model.specs.Text.{is_digit, digits, decimal_from, well_written, number, field, Fields, with_field, next_field, read_fields, field_count, line_of, closed, malformed, with_fields, read_line}
use Rattle.model.proofs.Truth.{choice, either, and_iff}

-- ---- a part of a text

-- The part of a list that begins at a.
pub part {ℓ} : {A : Type ℓ} (a : ℕ) (xs : List A) → take (length xs - a) (drop a xs) ≡ drop a xs
part a xs = take_all (length xs - a) (drop a xs) (rw length-drop (le_refl _))

-- Where a list has another element than the one that stands for none, it reaches that far.
pub reaches : (xs : List ℕ) (i b : ℕ) → get_or xs i 0 ≡ b → 0 < b → i < length xs
reaches xs i b e h =
    ⊎_elim (λ t. ltb-true _ _ t)
    (λ f. let d : get_or xs i 0 ≡ 0 = get_or-eq_default xs 0 (ltb-false _ _ f) in omega arith)
    (either (ltb i (length xs)))

-- ---- digits, one by one

-- A digit is a byte of the text.
pub digit_within : (xs : List ℕ) (i : ℕ) → is_digit (get_or xs i 0) ≡ true → i < length xs
unfolding is_digit
digit_within xs i e =
    let low : 48 ≤ get_or xs i 0 = leb-true _ _ ((and_iff _ _).0 e).0 in reaches xs i (get_or xs i 0) refl (omega arith)

-- A digit is one of the bytes 48 to 57.
pub digit_range : (b : ℕ) → is_digit b ≡ true → (48 ≤ b) × (b ≤ 57)
unfolding is_digit
digit_range b e =
    let both : (leb 48 b ≡ true) × (leb b 57 ≡ true) = (and_iff (leb 48 b) (leb b 57)).0 e in
    (leb-true _ _ both.0, leb-true _ _ both.1)

-- One more digit.
pub digits_more : (xs : List ℕ) (i : ℕ) → is_digit (get_or xs i 0) ≡ true
    → digits (drop i xs) ≡ get_or xs i 0 ∷ digits (drop (i + 1) xs)
unfolding digits
digits_more xs i e = let h : i < length xs = digit_within xs i e in rw (drop-cons xs i 0 h, add-one, digits, e)

-- The digits end.
pub digits_end : (xs : List ℕ) (i : ℕ) → is_digit (get_or xs i 0) ≡ false → digits (drop i xs) ≡ []
unfolding digits
digits_end xs i e =
    ⊎_elim (λ t. let h : i < length xs = ltb-true _ _ t in rw (drop-cons xs i 0 h, digits, e))
    (λ f. rw (drop_of_length-le xs (ltb-false _ _ f)))
    (either (ltb i (length xs)))

-- The first of the digits, where there is one.
first_of : (t : Bool) (b : ℕ) (ds : List ℕ) → 0 < length (cond t (b ∷ ds) []) → get_or (cond t (b ∷ ds) []) 0 48 ≡ b
first_of true b ds h = refl
first_of false b ds h = absurd (omega arith)

-- The first digit is the text's first byte.
pub first_digit : (xs : List ℕ) → 0 < length (digits xs) → get_or (digits xs) 0 48 ≡ get_or xs 0 0
unfolding digits
first_digit [] h = absurd (omega arith)
first_digit (b ∷ xs) h = first_of (is_digit b) b (digits xs) h

-- ---- a field

-- A field, by the text's first byte.
pub field_by_byte : (xs : List ℕ) → field xs ≡ cond (eqb (get_or xs 0 0) 44) (number (drop 1 xs)) None
unfolding field
field_by_byte [] = refl
field_by_byte (b ∷ xs) = refl

-- The field of a part of the text.
pub field_of_part : (xs : List ℕ) (n : ℕ) (r q : Option Number) → r ≡ field (take (length xs - n) (drop n xs)) → r ≡ q
    → field (drop n xs) ≡ q
field_of_part xs n r q e f = ap field (sym (part n xs)) ∙ sym e ∙ f

-- ---- how many bytes are read

-- The bytes of a number's field.
abbrev number_size : Option Number → ℕ
number_size (Some n) = n.length
number_size None = 0

-- There are no more digits than bytes.
digits_length : (xs : List ℕ) → length (digits xs) ≤ length xs
unfolding digits
digits_length [] = omega arith
digits_length (b ∷ xs) =
    choice (λ (ds : List ℕ). length ds ≤ suc (length xs)) (is_digit b) (b ∷ digits xs) []
    (λ e. let h : length (digits xs) ≤ length xs = digits_length xs in omega arith)
    (λ e. omega arith)

-- A number takes no more bytes than there are, with the comma before it.
number_size_lem : (xs : List ℕ) → number_size (number xs) ≤ length xs + 1
unfolding number
number_size_lem xs =
    choice (λ (r : Option Number). number_size r ≤ length xs + 1) (well_written (digits xs))
    (Some (record { value = decimal_from 0 (digits xs); length = length (digits xs) + 1 }))
    None
    (λ e. omega (arith, digits_length xs))
    (λ e. omega arith)

-- A field takes no more bytes than there are.
field_size : (xs : List ℕ) → number_size (field xs) ≤ length xs
unfolding field
field_size [] = omega arith
field_size (b ∷ xs) =
    choice (λ (r : Option Number). number_size r ≤ suc (length xs)) (eqb b 44) (number xs) None
    (λ e. omega (arith, number_size_lem xs))
    (λ e. omega arith)

-- The same of a field that was read.
pub field_within : (xs : List ℕ) (n : Number) → field xs ≡ Some n → n.length ≤ length xs
field_within xs n e = subst (λ (r : Option Number). number_size r ≤ length xs) e (field_size xs)

-- Behind n bytes a field takes no more than are left.
pub field_behind : (xs : List ℕ) (at : ℕ) (n : Number) → at ≤ length xs → field (drop at xs) ≡ Some n
    → at + n.length ≤ length xs
field_behind xs at n h e = omega (arith, field_within (drop at xs) n e, length-drop at xs)

-- ---- fields, one by one

-- The bytes of fields are no more than there are.
abbrev fields_size : Option Fields → ℕ
fields_size (Some fs) = fs.bytes
fields_size None = 0

with_size : (xs : List ℕ) (fs : Fields) (r : Option Number) → fs.bytes ≤ length xs
    → number_size r ≤ length (drop fs.bytes xs)
    → fields_size (with_field fs r) ≤ length xs
with_size xs fs (Some n) h g = omega (arith, length-drop fs.bytes xs)
with_size xs fs None h g = omega arith

next_size : (xs : List ℕ) (r : Option Fields) → fields_size r ≤ length xs → fields_size (next_field xs r) ≤ length xs
next_size xs (Some fs) h = with_size xs fs (field (drop fs.bytes xs)) h (field_size (drop fs.bytes xs))
next_size xs None h = omega arith

fields_size_lem : (k : ℕ) (xs : List ℕ) → fields_size (read_fields k xs) ≤ length xs
unfolding read_fields
fields_size_lem zero xs = omega arith
fields_size_lem (suc k) xs = next_size xs (read_fields k xs) (fields_size_lem k xs)

pub fields_within : (k : ℕ) (xs : List ℕ) (fs : Fields) → read_fields k xs ≡ Some fs → fs.bytes ≤ length xs
fields_within k xs fs e = subst (λ (r : Option Fields). fields_size r ≤ length xs) e (fields_size_lem k xs)

-- ---- a line

-- No line has more than six fields.
pub count_most : (letter : ℕ) → field_count letter ≤ 6
unfolding field_count
count_most letter =
    choice (λ (n : ℕ). n ≤ 6) (eqb letter letter_m) _ _ (λ e. omega arith)
    (λ e.
    choice (λ (n : ℕ). n ≤ 6) (eqb letter letter_g) _ _ (λ e. omega arith)
    (λ e.
    choice (λ (n : ℕ). n ≤ 6) (eqb letter letter_r) _ _ (λ e. omega arith)
    (λ e. choice (λ (n : ℕ). n ≤ 6) (eqb letter letter_w) _ _ (λ e. omega arith) (λ e. omega arith))))

-- Zeros behind the numbers, in the places that the letter doesn't have, make no difference.
zeros : (n i : ℕ) → get_or {A = ℕ} (replicate n 0) i 0 ≡ 0
zeros zero i = refl
zeros (suc n) zero = refl
zeros (suc n) (suc i) = zeros n i

zeros_behind : (ns zs : List ℕ) → ((i : ℕ) → get_or zs i 0 ≡ 0) → (i : ℕ) → get_or (ns ++ zs) i 0 ≡ get_or ns i 0
zeros_behind [] zs z i = z i
zeros_behind (n ∷ ns) zs z zero = refl
zeros_behind (n ∷ ns) zs z (suc i) = zeros_behind ns zs z i

pub line_in_front : (letter : ℕ) (ns : List ℕ) (k n : ℕ) → line_of letter (ns ++ drop k (replicate n 0)) ≡ line_of letter ns
unfolding line_of
line_in_front letter ns k n =
    simp (zeros_behind ns (drop k (replicate n 0)) (λ i. get_or-drop k (replicate n 0) i 0 ∙ zeros n (k + i)))

-- A text without a byte has no line.
pub no_line : (xs : List ℕ) → length xs ≤ 0 → malformed ≡ read_line xs
unfolding read_line field_count read_fields line_of
no_line [] h = refl
no_line (b ∷ xs) h = absurd (omega arith)

-- What was read lies in the text, and takes a byte at least unless it is malformed.
pub record Sized (xs : List ℕ) (r : Read) : Type 0 where
  pub within : r.next ≤ length xs
  pub moves : (r.line ≡ Malformed → ⊥) → 1 ≤ r.next

-- A malformed line, one that is closed, and one with its fields.
sized_malformed : (xs : List ℕ) → Sized xs malformed
sized_malformed xs = record { within = omega arith; moves = λ h. absurd (h refl) }

sized_closed : (xs : List ℕ) (n : ℕ) (l : Line) → Sized xs (closed xs n l)
sized_closed xs n l =
    choice (Sized xs) (eqb (get_or xs n 0) 10) (record { line = l; next = n + 1 }) malformed
    (λ e.
    record {
      within = omega (arith, reaches xs n 10 (eqb-true _ _ e) (omega arith));
      moves = λ h. omega arith;
    })
    (λ e. sized_malformed xs)

sized_fields : (xs : List ℕ) (r : Option Fields) → Sized xs (with_fields xs r)
sized_fields xs (Some fs) = sized_closed xs (1 + fs.bytes) (line_of (get_or xs 0 0) fs.numbers)
sized_fields xs None = sized_malformed xs

-- Every line that is read.
pub sized : (xs : List ℕ) → Sized xs (read_line xs)
unfolding read_line
sized xs = sized_fields xs (read_fields (field_count (get_or xs 0 0)) (drop 1 xs))
