-- Digits in a row: how many a text begins with, that they are digits, and the number that they write.
-- Assumes nothing.
use Rattle.std.proofs.Common.{ℕ, zero, suc, ◌+◌, ◌-◌, ◌*◌, ◌^◌, ◌<◌, ◌≤◌, ◌≡◌, Bool, true, false, cond, Some, None, List, [], ◌∷◌, length, take, drop, get_or, refl, ap, add-one, min, arith, drop-cons, take_all, length-take}
use native.Mathlib.Nat.{pow-suc}
use lib.ListN.{drop_of_length-le}
use Rattle.std.proofs.lemmas.List.{take_min}
use Rattle.std.specs.List.{AllPass, prefix_len}
use Rattle.std.proofs.lemmas.List.Elements.{All-nil, All-cons}
use Rattle.std.proofs.lemmas.List.Folds.{length-prefix_len}
use Rattle.model.specs.Text.{is_digit, digits, decimal_from, well_written, number}
use borrow.Author.Tests.{leb-true}
use Rattle.model.proofs.Truth.{choice, and_iff, same_choice, same_outcome}

-- They are as many bytes as pass the test in a row.
one_more : (t : Bool) (b n : ℕ) (xs ds : List ℕ) → take n xs ≡ ds → take (cond t (1 + n) 0) (b ∷ xs) ≡ cond t (b ∷ ds) []
one_more true b n xs ds e = let s : 1 + n ≡ suc n = omega arith in rw s (ap (λ (ys : List ℕ). b ∷ ys) e)
one_more false b n xs ds e = refl

digits_row : (xs : List ℕ) → take (prefix_len is_digit xs) xs ≡ digits xs
unfolding digits
digits_row [] = refl
digits_row (b ∷ xs) = one_more (is_digit b) b _ xs _ (digits_row xs)

-- Counted so, they are the digits of the text.
pub digits_counted : (xs : List ℕ) (n : ℕ) → n ≡ length (take (prefix_len is_digit xs) xs) → take n xs ≡ digits xs
digits_counted xs n e = rw (e, length-prefix_len is_digit xs) (digits_row xs)

-- Each of them is one.
pub all_digits : (xs : List ℕ) → AllPass is_digit (digits xs)
unfolding digits
all_digits [] = All-nil (λ b. is_digit b ≡ true)
all_digits (b ∷ xs) =
    choice (AllPass is_digit) (is_digit b) (b ∷ digits xs) []
    (λ t. All-cons (λ a. is_digit a ≡ true) b _ t (all_digits xs))
    (λ f. All-nil (λ a. is_digit a ≡ true))

-- What is read of them so far, at one digit more.
pub decimal_more : (ds : List ℕ) (v i : ℕ) → i < length ds
    → decimal_from v (drop i ds) ≡ decimal_from (v * 10 + (get_or ds i 0 - 48)) (drop (i + 1) ds)
unfolding decimal_from
decimal_more ds v i h = rw (drop-cons ds i 0 h, add-one) refl

-- All of them are read.
pub decimal_end : (ds : List ℕ) (v i : ℕ) → length ds ≤ i → decimal_from v (drop i ds) ≡ v
unfolding decimal_from
decimal_end ds v i h = rw (drop_of_length-le ds h) refl

-- One digit more makes a number ten times as large at the most.
pub decimal_small : (v i d : ℕ) → v < 10 ^ i → d ≤ 9 → v * 10 + d < 10 ^ (i + 1)
decimal_small v i d s h = let p : 10 ^ suc i ≡ 10 ^ i * 10 = pow-suc 10 i in rw add-one (omega arith)

-- Well written digits are ten at the most.
pub few_digits : (ds : List ℕ) → well_written ds ≡ true → length ds ≤ 10
unfolding well_written
few_digits ds e = leb-true _ _ ((and_iff _ _).0 ((and_iff _ _).0 e).0).1

-- Of the first bytes, the digits are the first ones.
next_kept : (t : Bool) (b k : ℕ) (xs ds : List ℕ) → xs ≡ take k ds
    → cond t (b ∷ xs) [] ≡ take (suc k) (cond t (b ∷ ds) [])
next_kept true b k xs ds e = ap (λ (ys : List ℕ). b ∷ ys) e
next_kept false b k xs ds e = refl

digits_in_front : (k : ℕ) (xs : List ℕ) → digits (take k xs) ≡ take k (digits xs)
unfolding digits
digits_in_front zero xs = refl
digits_in_front (suc k) [] = refl
digits_in_front (suc k) (b ∷ xs) = next_kept (is_digit b) b k _ _ (digits_in_front k xs)

-- Eleven digits, or as many as there are, are well written exactly where all of them are, and then they are all.
all_in_front : (ds : List ℕ) → well_written (take 11 ds) ≡ true → take 11 ds ≡ ds
all_in_front ds e = let s = rw length-take at (few_digits (take 11 ds) e) in take_all 11 ds (omega (arith, s))

well_in_front : (ds : List ℕ) → well_written (take 11 ds) ≡ well_written ds
well_in_front ds =
    same_outcome _ _
    (λ e. rw (all_in_front ds e) at e)
    (λ e. let s = few_digits ds e in rw (take_all 11 ds (omega (arith, s))) e)

-- Eleven bytes tell which number a text begins with.
eleven_tell : (xs : List ℕ) → number (take 11 xs) ≡ number xs
unfolding number
eleven_tell xs =
    rw (digits_in_front 11 xs)
    (same_choice _ _ _ _ None
    (λ e. ap (λ (ds : List ℕ). Some (record { value = decimal_from 0 ds; length = length ds + 1 })) (all_in_front (digits xs) e))
    (well_in_front (digits xs)))

pub number_in_front : (xs : List ℕ) → number (take (min 11 (length xs)) xs) ≡ number xs
number_in_front xs = rw (take_min 11 xs) (eleven_tell xs)
