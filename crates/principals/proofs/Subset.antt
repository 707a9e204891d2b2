-- Sets of principals as numbers: x is a subset of y exactly when each bit of x is at most the same bit of y. Through
-- that bridge the laws of sets are laws of orders, minima and maxima. Assumes nothing.
use Prim.Native.Nat.{ℕ, zero, suc, ◌+◌, ◌*◌, ◌/◌, ◌%◌, ◌^◌, ◌≤◌, ◌<◌, min, max}
use mathlib.Core.Path.{◌≡◌, refl, sym, ap, ap₂, ◌∙◌}
use mathlib.Core.Bool.{Bool, true, false, ◌&&◌, and-eq-true_iff}
use native.Mathlib.Nat.{mod-lt, min-eq_left, div-one, div-add-mod'}
use native.Mathlib.Omega.{arith}
use lib.Arith.{bin_ind, digits_mod}
use lib.Bits.{bit_and, bit_or, bit_xor, differ, and_step, or_step, xor_step, and_shr, or_shr, xor_shr, and_comm}
use lib.Dec.{lit<, eqb}
use lib.Pow.{shr-shr}
use borrow.Author.Tests.{eqb-true, eq-eqb}
use Rattle.principals.specs.Principals.{subset}

-- Two tests are equal when each is true where the other is.
pub same_truth : (a b : Bool) → (a ≡ true → b ≡ true) → (b ≡ true → a ≡ true) → a ≡ b
same_truth true b f g = sym (f refl)
same_truth false true f g = g refl
same_truth false false f g = refl

-- Bit k of x.
pub bit : ℕ → ℕ → ℕ
bit k x = x / 2 ^ k % 2

-- An operation that works digit by digit works bit by bit.
module _ (op f : ℕ → ℕ → ℕ) (shr : (a b k : ℕ) → op a b / 2 ^ k ≡ op (a / 2 ^ k) (b / 2 ^ k))
    (step : (a b : ℕ) → op a b ≡ op (a / 2) (b / 2) * 2 + f (a % 2) (b % 2))
    (small : (x y : ℕ) → x < 2 → y < 2 → f x y < 2) where
  bit_op : (k a b : ℕ) → bit k (op a b) ≡ f (bit k a) (bit k b)
  unfolding bit
  bit_op k a b =
      ap (λ (x : ℕ). x % 2) (shr a b k ∙ step (a / 2 ^ k) (b / 2 ^ k))
      ∙ digits_mod (op (a / 2 ^ k / 2) (b / 2 ^ k / 2))
      (small (a / 2 ^ k % 2) (b / 2 ^ k % 2) (mod-lt (a / 2 ^ k) (lit< tt)) (mod-lt (b / 2 ^ k) (lit< tt)))

-- Bits of what two sets share.
bit_of_and : (k a b : ℕ) → bit k (bit_and a b) ≡ min (bit k a) (bit k b)
bit_of_and = bit_op bit_and min and_shr and_step (λ x y h l. omega arith)

-- Bits of two sets together.
bit_of_or : (k a b : ℕ) → bit k (bit_or a b) ≡ max (bit k a) (bit k b)
bit_of_or = bit_op bit_or max or_shr or_step (λ x y h l. omega arith)

-- Of two bits, whether they differ.
differ_bits : (x y : ℕ) → differ x y + min x y * 2 ≡ x + y
differ_bits zero y = omega arith
differ_bits (suc x) zero = omega arith
differ_bits (suc x) (suc y) = omega (arith, differ_bits x y)

-- Bits of what one of two sets has alone: with twice what they share, all that they have.
bit_of_xor : (k a b : ℕ) → bit k (bit_xor a b) + min (bit k a) (bit k b) * 2 ≡ bit k a + bit k b
bit_of_xor k a b =
    ap (λ (x : ℕ). x + min (bit k a) (bit k b) * 2)
    (bit_op bit_xor differ xor_shr xor_step (λ x y h l. omega (arith, differ_bits x y)) k a b)
    ∙ differ_bits (bit k a) (bit k b)

-- A bit is 0 or 1.
bit_lt : (k x : ℕ) → bit k x < 2
unfolding bit
bit_lt k x = mod-lt (x / 2 ^ k) (lit< tt)

-- The bits of a half are the bits from the second on.
bit_half : (k x : ℕ) → bit k (x / 2) ≡ bit (1 + k) x
unfolding bit
bit_half k x = ap (λ (y : ℕ). y % 2) (shr-shr x 1 k)

-- The first bit is the last digit.
bit_first : (x : ℕ) → bit 0 x ≡ x % 2
unfolding bit
bit_first x = ap (λ (y : ℕ). y % 2) (div-one x)

-- The bits of a subset are at most those of the set.
pub bits : (x y : ℕ) → subset x y ≡ true → (k : ℕ) → bit k x ≤ bit k y
unfolding subset
bits x y h k = omega (arith, bit_of_and k x y, ap (bit k) (eqb-true (bit_and x y) x h))

-- A number whose bits are at most those of another is a subset of it.
pub by_bits : (x y : ℕ) → ((k : ℕ) → bit k x ≤ bit k y) → subset x y ≡ true
unfolding subset
by_bits x y h = eq-eqb (bit_and x y) x (go x y h)
  where
    -- The last digit first, then the halves.
    go : (x y : ℕ) → ((k : ℕ) → bit k x ≤ bit k y) → bit_and x y ≡ x
    go =
        bin_ind (λ (x : ℕ). (y : ℕ) → ((k : ℕ) → bit k x ≤ bit k y) → bit_and x y ≡ x) (λ y h. refl)
        (λ x ih y h. and_step x y
        ∙ ap₂ (λ (q r : ℕ). q * 2 + r) (ih (y / 2) (λ k. simp bit_half (h (1 + k))))
        (min-eq_left (simp bit_first at (h 0)))
        ∙ div-add-mod' x 2)

-- A set is a subset of itself.
pub subset_refl : (x : ℕ) → subset x x ≡ true
subset_refl x = by_bits x x (λ k. omega arith)

-- A subset of a subset is a subset.
pub subset_trans : (x y z : ℕ) → subset x y ≡ true → subset y z ≡ true → subset x z ≡ true
subset_trans x y z p q = by_bits x z (λ k. omega (arith, bits x y p k, bits y z q k))

-- Two sets that are subsets of each other are one.
pub subset_antisym : (x y : ℕ) → subset x y ≡ true → subset y x ≡ true → x ≡ y
unfolding subset
subset_antisym x y p q = sym (eqb-true (bit_and x y) x p) ∙ and_comm x y ∙ eqb-true (bit_and y x) y q

-- Of six bits: a is at most b exactly when c is at most d and e at most f.
Conjunction : (a b c d e f : ℕ) → Type 0
Conjunction a b c d e f = (a ≤ b → c ≤ d) × (a ≤ b → e ≤ f) × (c ≤ d → e ≤ f → a ≤ b)

-- A subset test that is two others bit by bit is their conjunction.
conjunction : (a b c d e f : ℕ) → ((k : ℕ) → Conjunction (bit k a) (bit k b) (bit k c) (bit k d) (bit k e) (bit k f))
    → subset a b ≡ (subset c d && subset e f)
unfolding Conjunction
conjunction a b c d e f h =
    same_truth (subset a b) (subset c d && subset e f)
    (λ p. rw (by_bits c d (λ k. (h k).0 (bits a b p k))) (by_bits e f (λ k. (h k).1 (bits a b p k))))
    (λ p. let q = (and-eq-true_iff (subset c d) (subset e f)).0 p in
    by_bits a b (λ k. (h k).2 (bits c d q.0 k) (bits e f q.1 k)))

-- z is a subset of what x and y share exactly when it is one of both.
pub subset_and : (x y z : ℕ) → subset z (bit_and x y) ≡ (subset z x && subset z y)
unfolding Conjunction
subset_and x y z = conjunction z (bit_and x y) z x z y (λ k. omega (arith, bit_of_and k x y))

-- x and y together are a subset of z exactly when each is.
pub subset_or : (x y z : ℕ) → subset (bit_or x y) z ≡ (subset x z && subset y z)
unfolding Conjunction
subset_or x y z = conjunction (bit_or x y) z x z y z (λ k. omega (arith, bit_of_or k x y))

-- ---- a set turned within a larger one

-- Sets with the same bits are one.
same_bits : (x y : ℕ) → ((k : ℕ) → bit k x ≡ bit k y) → x ≡ y
same_bits x y h =
    subset_antisym x y (by_bits x y (λ k. omega (arith, h k))) (by_bits y x (λ k. omega (arith, h k)))

-- The empty set has no bit.
bit_none : (k : ℕ) → bit k 0 ≡ 0
bit_none k = omega (arith, bit_of_and k 0 0, bit_of_xor k 0 0)

-- x has nothing of what y lacks exactly when it is a subset of y.
pub without : (m x y : ℕ) → subset x m ≡ true → eqb (bit_and (bit_xor y m) x) 0 ≡ subset x y
without m x y h =
    same_truth (eqb (bit_and (bit_xor y m) x) 0) (subset x y)
    (λ e. by_bits x y
    (λ k. omega (
      arith,
      bit_of_and k (bit_xor y m) x,
      bit_of_xor k y m,
      bits x m h k,
      ap (bit k) (eqb-true (bit_and (bit_xor y m) x) 0 e),
      bit_none k,
      bit_lt k m,
      bit_lt k y,
      bit_lt k x,
    )))
    (λ p. eq-eqb (bit_and (bit_xor y m) x) 0
    (same_bits (bit_and (bit_xor y m) x) 0
    (λ k. omega (
      arith,
      bit_of_and k (bit_xor y m) x,
      bit_of_xor k y m,
      bits x m h k,
      bits x y p k,
      bit_none k,
      bit_lt k m,
      bit_lt k y,
      bit_lt k x,
    ))))

-- What neither of two sets lacks is what they share.
pub lacked_by_neither : (m x y : ℕ) → subset x m ≡ true → subset y m ≡ true
    → bit_xor (bit_or (bit_xor x m) (bit_xor y m)) m ≡ bit_and x y
lacked_by_neither m x y h l =
    same_bits (bit_xor (bit_or (bit_xor x m) (bit_xor y m)) m) (bit_and x y)
    (λ k. omega (
      arith,
      bit_of_xor k (bit_or (bit_xor x m) (bit_xor y m)) m,
      bit_of_or k (bit_xor x m) (bit_xor y m),
      bit_of_xor k x m,
      bit_of_xor k y m,
      bit_of_and k x y,
      bits x m h k,
      bits y m l k,
      bit_lt k m,
    ))

-- What not both of two sets lack is what they have together.
pub lacked_by_both : (m x y : ℕ) → subset x m ≡ true → subset y m ≡ true
    → bit_xor (bit_and (bit_xor x m) (bit_xor y m)) m ≡ bit_or x y
lacked_by_both m x y h l =
    same_bits (bit_xor (bit_and (bit_xor x m) (bit_xor y m)) m) (bit_or x y)
    (λ k. omega (
      arith,
      bit_of_xor k (bit_and (bit_xor x m) (bit_xor y m)) m,
      bit_of_and k (bit_xor x m) (bit_xor y m),
      bit_of_xor k x m,
      bit_of_xor k y m,
      bit_of_or k x y,
      bits x m h k,
      bits y m l k,
      bit_lt k m,
    ))

-- Two sets share nothing exactly when no bit is in both.
apart_bits : (x z : ℕ) → eqb (bit_and x z) 0 ≡ true → (k : ℕ) → min (bit k x) (bit k z) ≡ 0
apart_bits x z e k = omega (arith, bit_of_and k x z, ap (bit k) (eqb-true (bit_and x z) 0 e), bit_none k)

by_apart_bits : (x z : ℕ) → ((k : ℕ) → min (bit k x) (bit k z) ≡ 0) → eqb (bit_and x z) 0 ≡ true
by_apart_bits x z h =
    eq-eqb (bit_and x z) 0 (same_bits (bit_and x z) 0 (λ k. omega (arith, bit_of_and k x z, h k, bit_none k)))

-- x and y together share nothing with z exactly when neither does.
pub apart_or : (x y z : ℕ) → eqb (bit_and (bit_or x y) z) 0 ≡ (eqb (bit_and x z) 0 && eqb (bit_and y z) 0)
apart_or x y z =
    same_truth (eqb (bit_and (bit_or x y) z) 0) (eqb (bit_and x z) 0 && eqb (bit_and y z) 0)
    (λ e. rw (by_apart_bits x z (λ k. omega (arith, bit_of_or k x y, apart_bits (bit_or x y) z e k)))
    (by_apart_bits y z (λ k. omega (arith, bit_of_or k x y, apart_bits (bit_or x y) z e k))))
    (λ e. let q = (and-eq-true_iff (eqb (bit_and x z) 0) (eqb (bit_and y z) 0)).0 e in
    by_apart_bits (bit_or x y) z (λ k. omega (arith, bit_of_or k x y, apart_bits x z q.0 k, apart_bits y z q.1 k)))
