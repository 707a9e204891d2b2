-- What op 8 promises of its ticks: they come from a count of significant bits, and in every state they are document 01's.
-- Assumes nothing.
use Prim.Native.Nat.{ℕ, ◌+◌, ◌-◌, ◌*◌, ◌/◌, ◌%◌, ◌^◌, ◌≤◌, ◌<◌}
use mathlib.Core.Path.{◌≡◌, refl, subst, ap}
use mathlib.Core.Bool.{Bool, true, false, ◌&&◌}
use mathlib.Core.Option.{some}
use native.Mathlib.Omega.{arith}
use lib.Count.{count_leading_zeros, leading_length}
use lib.Dec.{eqb}
use borrow.Author.Tests.{eqb-true, eqb-false}
use Rattle.labels.specs.Label.{flows}
use Rattle.model.specs.Record.{State}
use Rattle.model.specs.Word.{op_field, decode, arithmetic, multiply}
use Rattle.model.specs.Ops.{significant_bits, multiply_count, multiply_ticks, arithmetic_ticks, t, Lb, Lc, Rc, table}
use Rattle.model.specs.Facts.{ceiling, document_ticks}
use Rattle.model.proofs.Truth.{choice}

-- The significant bits of a value hold it, and one bit fewer does not.
pub significant : (v : ℕ) → v < 2 ^ 32 → (v < 2 ^ significant_bits v) × (2 ^ significant_bits v ≤ 2 * v + 1)
unfolding significant_bits
significant v h =
    let length = leading_length 32 v h in
    subst (λ (k : ℕ). (v < 2 ^ k) × (2 ^ k ≤ 2 * v + 1)) (omega (arith, length.1)) (length.2, length.3)

-- The bound is needed: of 2^32, which has 33, no more than 32 are counted.
pub unbounded : significant_bits (2 ^ 32) ≡ 32
unfolding significant_bits count_leading_zeros
unbounded = refl

-- A fourth of three more is the ceiling of a fourth.
ceiling_four : (n : ℕ) → (n + 3) / 4 ≡ ceiling n 4
ceiling_four n =
    choice (λ (k : ℕ). (n + 3) / 4 ≡ k) (eqb (n % 4) 0) _ _ (λ e. omega (arith, eqb-true (n % 4) 0 e))
    (λ e. omega (arith, eqb-false (n % 4) 0 e))

-- One formula gives what document 01 says in two cases.
documented : (visible : Bool) (v : ℕ) → arithmetic_ticks multiply visible v ≡ document_ticks visible v
unfolding multiply_count multiply_ticks
documented true v = ap (λ (k : ℕ). 2 + k) (ceiling_four (significant_bits v))
documented false v = refl

-- Every op 8 takes document 01's ticks: in every state, at every word with that op.
pub multiply_documented : (s : State) (w : ℕ) → op_field w ≡ 8
    → (decode (op_field w) ≡ some (arithmetic multiply))
    × ((table s w (arithmetic multiply)).ticks ≡ document_ticks (flows (Lb s w) (t s w) && flows (Lc s w) (t s w)) (Rc s w))
unfolding decode table
multiply_documented s w e = (ap decode e, documented _ (Rc s w))

-- Hidden factors count as the longest value does. Their ticks alone don't show it: a count of 31 would give as many.
pub hidden_longest : (v : ℕ) → multiply_count false v ≡ multiply_count true (2 ^ 32 - 1)
unfolding multiply_count significant_bits count_leading_zeros
hidden_longest v = refl

-- No count is above the bits of a value.
pub count_le : (visible : Bool) (v : ℕ) → multiply_count visible v ≤ 32
unfolding multiply_count significant_bits
count_le true v = omega arith
count_le false v = omega arith
