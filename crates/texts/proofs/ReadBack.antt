-- Reading a printed number gives the number back.
-- Assumes nothing.
use Prim.Native.Nat.{ℕ, zero, suc, ◌+◌, ◌-◌, ◌*◌, ◌/◌, ◌%◌, ◌^◌, ◌<◌, ◌≤◌}
use mathlib.Core.Path.{◌≡◌, refl, sym, ◌∙◌}
use mathlib.Core.Logic.{⊎_elim}
use mathlib.Core.Bool.{Bool, true, false, not, ◌||◌}
use mathlib.Core.List.{List, [], ◌∷◌, ◌++◌, append-nil}
use native.Mathlib.Omega.{arith}
use lib.Dec.{ltb, eqb}
use lib.ListN.{length, get_or, get_or-append}
use borrow.Author.Tests.{ltb-true, ltb-false, lt-ltb, le-leb, ne_eqb}
use Rattle.std.specs.Prelude.{Some}
use Rattle.model.specs.Listing.{decimal_in, decimal}
use Rattle.model.specs.Text.{is_digit, digits, decimal_from, well_written, number}
use Rattle.model.proofs.Truth.{choice, either}
use Rattle.texts.proofs.Decimal.{tenth, some_digit, digits_below, least_digits}

-- ---- a printed number is all digits

-- Every byte is a digit.
data AllDigits : List ℕ → Type 0 where
  none : AllDigits []
  more : {b : ℕ} {xs : List ℕ} → is_digit b ≡ true → AllDigits xs → AllDigits (b ∷ xs)

-- The byte of a number below ten is a digit.
digit : (n : ℕ) → n < 10 → is_digit (48 + n) ≡ true
unfolding is_digit
digit n h = rw (le-leb 48 (48 + n) (omega arith), le-leb (48 + n) 57 (omega arith))

-- One digit more.
digit_behind : {xs : List ℕ} (b : ℕ) → AllDigits xs → is_digit b ≡ true → AllDigits (xs ++ (b ∷ []))
digit_behind b none e = more e none
digit_behind b (more d h) e = more d (digit_behind b h e)

all_digits : (k n : ℕ) → AllDigits (decimal_in k n)
unfolding decimal_in
all_digits zero n = none
all_digits (suc k) n =
    choice AllDigits (ltb n 10) ((48 + n) ∷ []) (decimal_in k (n / 10) ++ ((48 + n % 10) ∷ []))
    (λ e. more (digit n (ltb-true n 10 e)) none)
    (λ e. digit_behind (48 + n % 10) (all_digits k (n / 10)) (digit (n % 10) (omega arith)))

-- The digits of a text that begins with digits.
digits_all : {xs : List ℕ} (rest : List ℕ) → AllDigits xs → digits (xs ++ rest) ≡ xs ++ digits rest
unfolding digits
digits_all rest none = refl
digits_all rest (more {b} {xs} d h) = rw (d, digits_all rest h)

-- A text that does not begin with a digit has none.
no_digits : (rest : List ℕ) → is_digit (get_or rest 0 0) ≡ false → digits rest ≡ []
unfolding digits
no_digits [] e = refl
no_digits (b ∷ xs) e = rw e

-- ---- the number that they write

decimal_from_append : (m : ℕ) (xs ys : List ℕ) → decimal_from m (xs ++ ys) ≡ decimal_from (decimal_from m xs) ys
unfolding decimal_from
decimal_from_append m [] ys = refl
decimal_from_append m (x ∷ xs) ys = decimal_from_append (m * 10 + (x - 48)) xs ys

-- The number with one digit more behind it.
digit_more : (m d : ℕ) → decimal_from m ((48 + d) ∷ []) ≡ m * 10 + d
unfolding decimal_from
digit_more m d = omega arith

value : (k n : ℕ) → n < 10 ^ suc k → decimal_from 0 (decimal_in (suc k) n) ≡ n
unfolding decimal_in
value zero n h = rw (lt-ltb n 10 h) (digit_more 0 n ∙ omega arith)
value (suc k) n h =
    choice (λ (xs : List ℕ). decimal_from 0 xs ≡ n) (ltb n 10) ((48 + n) ∷ [])
    (decimal_in (suc k) (n / 10) ++ ((48 + n % 10) ∷ []))
    (λ e. digit_more 0 n ∙ omega arith)
    (λ e.
    decimal_from_append 0 (decimal_in (suc k) (n / 10)) _
    ∙ rw (value k (n / 10) (tenth (suc k) n h)) (digit_more (n / 10) (n % 10) ∙ omega arith))

-- ---- no leading zero

leading : (k n : ℕ) → n < 10 ^ suc k → 0 < n → get_or (decimal_in (suc k) n) 0 48 ≡ 48 → ⊥
unfolding decimal_in
leading zero n h p = λ e. let f : 48 + n ≡ 48 = rw (lt-ltb n 10 h) at e in omega arith
leading (suc k) n h p =
    choice (λ (xs : List ℕ). get_or xs 0 48 ≡ 48 → ⊥) (ltb n 10) ((48 + n) ∷ [])
    (decimal_in (suc k) (n / 10) ++ ((48 + n % 10) ∷ []))
    (λ t e. omega arith)
    (λ t e.
    let l = ltb-false n 10 t in
    leading k (n / 10) (tenth (suc k) n h) (omega arith)
    (sym (get_or-append (decimal_in (suc k) (n / 10)) _ 48 0 (some_digit k (n / 10))) ∙ e))

-- What is left of a disjunction whose second part passes.
or_right : (b : Bool) → (b || true) ≡ true
or_right true = refl
or_right false = refl

-- A number below ten has one digit; any other has no zero in front.
one_digit : (n : ℕ) → n < 10 → (eqb (length (decimal n)) 1 || not (eqb (get_or (decimal n) 0 48) 48)) ≡ true
unfolding decimal decimal_in
one_digit n l = rw (lt-ltb n 10 l)

no_zero : (n : ℕ) → n < 10 ^ 10 → 10 ≤ n → (eqb (length (decimal n)) 1 || not (eqb (get_or (decimal n) 0 48) 48)) ≡ true
unfolding decimal
no_zero n h l =
    rw (ne_eqb (get_or (decimal_in 20 n) 0 48) 48 (leading 19 n (omega arith) (omega arith)))
    (or_right (eqb (length (decimal n)) 1))

-- A number that is printed is well written.
well_written_lem : (n : ℕ) → n < 10 ^ 10 → well_written (decimal n) ≡ true
unfolding well_written
well_written_lem n h =
    rw (le-leb 1 (length (decimal n)) (least_digits n), le-leb (length (decimal n)) 10 (digits_below 9 n h))
    (⊎_elim (λ t. one_digit n (ltb-true n 10 t)) (λ f. no_zero n h (ltb-false n 10 f)) (either (ltb n 10)))

-- The digits of a text that begins with a printed number, and the number that they write.
printed : (n : ℕ) (rest : List ℕ) → is_digit (get_or rest 0 0) ≡ false → digits (decimal n ++ rest) ≡ decimal n
unfolding decimal
printed n rest e = digits_all rest (all_digits 20 n) ∙ rw (no_digits rest e, append-nil)

written : (n : ℕ) → n < 10 ^ 10 → decimal_from 0 (decimal n) ≡ n
unfolding decimal
written n h = value 19 n (omega arith)

-- Reading a number below 10^10 where it was printed, with no digit behind it, gives the number, and its field's bytes with
-- the comma before it.
pub read_back : (n : ℕ) (rest : List ℕ) → n < 10 ^ 10 → is_digit (get_or rest 0 0) ≡ false
    → number (decimal n ++ rest) ≡ Some (record { value = n; length = length (decimal n) + 1 })
unfolding number
read_back n rest h e = rw (printed n rest e, well_written_lem n h, written n h)
