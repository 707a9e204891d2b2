-- Numbers in base ten: their digits one by one, how many there are, and what is read back from them.
-- Assumes nothing.
use Prim.Native.Nat.{ℕ, zero, suc, ◌+◌, ◌*◌, ◌/◌, ◌%◌, ◌^◌, ◌<◌, ◌≤◌}
use mathlib.Core.Path.{◌≡◌, refl, sym, ap, ◌∙◌}
use mathlib.Core.Bool.{cond}
use mathlib.Core.List.{List, [], ◌∷◌, ◌++◌}
use native.Mathlib.Nat.{pow-suc, one-le-pow, div-lt_iff_lt-mul, le-div_iff_mul-le}
use native.Mathlib.Omega.{arith}
use lib.Dec.{ltb, lit<}
use lib.ListN.{length, length-append}
use borrow.Author.Tests.{lt-ltb, le-ltb}
use Rattle.std.specs.Prelude.{Option, Some, None}
use Rattle.std.specs.Option.{IfSome, IfNone, unwrap_or}
use Rattle.model.specs.Listing.{decimal_in, decimal}
use Rattle.model.proofs.Truth.{choice}

-- ---- the digits

-- A number without its last digit is below a tenth of the bound.
pub tenth : (k n : ℕ) → n < 10 ^ suc k → n / 10 < 10 ^ k
tenth k n h = (div-lt_iff_lt-mul {k = 10} (lit< tt)).1 (rw pow-suc at h)

-- Places that a number does not need change nothing.
spare : (k n : ℕ) → n < 10 ^ suc k → decimal_in (suc (suc k)) n ≡ decimal_in (suc k) n
unfolding decimal_in
spare zero n h = rw (lt-ltb n 10 h)
spare (suc k) n h =
    ap (λ (xs : List ℕ). cond (ltb n 10) ((48 + n) ∷ []) (xs ++ ((48 + n % 10) ∷ [])))
    (spare k (n / 10) (tenth (suc k) n h))

-- A number below ten is its digit.
pub decimal_digit : (n : ℕ) → n < 10 → decimal n ≡ (48 + n) ∷ []
unfolding decimal decimal_in
decimal_digit n h = rw (lt-ltb n 10 h)

-- Any other is its tenth and its last digit.
pub decimal_digits : (n : ℕ) → 10 ≤ n → n < 2 ^ 64 → decimal n ≡ decimal (n / 10) ++ ((48 + n % 10) ∷ [])
unfolding decimal decimal_in
decimal_digits n l h =
    rw (le-ltb n 10 l)
    (ap (λ (xs : List ℕ). xs ++ ((48 + n % 10) ∷ [])) (sym (spare 18 (n / 10) (omega arith))))

-- ---- how many there are

-- At most so many digits as there are places.
in_places : (k n : ℕ) → length (decimal_in k n) ≤ k
unfolding decimal_in
in_places zero n = omega arith
in_places (suc k) n =
    choice (λ (xs : List ℕ). length xs ≤ suc k) (ltb n 10) ((48 + n) ∷ []) (decimal_in k (n / 10) ++ ((48 + n % 10) ∷ []))
    (λ e. omega arith)
    (λ e. simp length-append (omega (arith, in_places k (n / 10))))

-- A number below ten to the k has at most k digits (and one at least).
below_power : (m k n : ℕ) → n < 10 ^ suc k → length (decimal_in m n) ≤ suc k
unfolding decimal_in
below_power zero k n h = omega arith
below_power (suc m) zero n h = rw (lt-ltb n 10 h) (omega arith)
below_power (suc m) (suc k) n h =
    choice (λ (xs : List ℕ). length xs ≤ suc (suc k)) (ltb n 10) ((48 + n) ∷ [])
    (decimal_in m (n / 10) ++ ((48 + n % 10) ∷ []))
    (λ e. omega arith)
    (λ e. simp length-append (omega (arith, below_power m k (n / 10) (tenth (suc k) n h))))

-- There is a digit.
pub some_digit : (k n : ℕ) → 1 ≤ length (decimal_in (suc k) n)
unfolding decimal_in
some_digit k n =
    choice (λ (xs : List ℕ). 1 ≤ length xs) (ltb n 10) ((48 + n) ∷ []) (decimal_in k (n / 10) ++ ((48 + n % 10) ∷ []))
    (λ e. omega arith)
    (λ e. simp length-append (omega arith))

-- A number from ten to the k on has more than k digits, where there is place for them.
above_power : (m k n : ℕ) → k < m → 10 ^ k ≤ n → suc k ≤ length (decimal_in m n)
unfolding decimal_in
above_power zero k n h g = absurd (omega arith)
above_power (suc m) zero n h g = some_digit m n
above_power (suc m) (suc k) n h g =
    let p : 10 ^ suc k ≡ 10 ^ k * 10 = pow-suc 10 k in
    let least = one-le-pow k 10 (lit< tt) in
    let l : 10 ^ k ≤ n / 10 = (le-div_iff_mul-le {k = 10} (lit< tt)).1 (rw p at g) in
    rw (le-ltb n 10 (omega arith)) (simp length-append (omega (arith, above_power m k (n / 10) (omega arith) l)))

-- A number has one to twenty digits.
pub most_digits_lem : (n : ℕ) → length (decimal n) ≤ 20
unfolding decimal
most_digits_lem n = in_places 20 n

pub least_digits : (n : ℕ) → 1 ≤ length (decimal n)
unfolding decimal
least_digits n = some_digit 19 n

-- A number below 10^(k + 1) has at most k + 1 digits.
pub digits_below : (k n : ℕ) → n < 10 ^ suc k → length (decimal n) ≤ suc k
unfolding decimal
digits_below k n h = below_power 20 k n h

-- A number from 10^k on has more than k digits.
pub digits_above : (k n : ℕ) → k < 20 → 10 ^ k ≤ n → suc k ≤ length (decimal n)
unfolding decimal
digits_above k n h g = above_power 20 k n h g

-- One more than the power of ten that a number reaches, as its logarithm gives it; a zero has one digit and none.
pub by_logarithm : (n : ℕ) (power : Option ℕ) → IfNone power (n ≡ 0) → IfSome power (λ k. 10 ^ k ≤ n)
    → IfSome power (λ k. n < 10 * 10 ^ k) → IfSome power (λ k. k < 20) → 1 + unwrap_or power 0 ≡ length (decimal n)
by_logarithm n None z l h b = ap length (sym (decimal_digit n (omega arith))) ∙ refl
by_logarithm n (Some k) z l h b =
    let p : 10 ^ suc k ≡ 10 ^ k * 10 = pow-suc 10 k in
    omega (arith, digits_above k n b l, digits_below k n (omega arith))
