-- What ops 23 and 24 promise: quotient and remainder by a divisor above 0, by 0, and their ticks.
-- Assumes nothing.
use Prim.Native.Nat.{ℕ, ◌+◌, ◌-◌, ◌*◌, ◌^◌, ◌<◌}
use mathlib.Core.Path.{◌≡◌, refl}
use mathlib.Core.Bool.{Bool}
use native.Mathlib.Nat.{div-add-mod', div-le_self, mod-lt, mod-le, lt_of_le_of_lt}
use native.Mathlib.Omega.{arith}
use lib.Dec.{eqb, lit<}
use borrow.Author.Tests.{ne_eqb}
use Rattle.model.specs.Record.{State}
use Rattle.model.specs.Word.{arithmetic, divide, remainder, compute}
use Rattle.model.specs.Ops.{arithmetic_ticks, table}
use Rattle.model.proofs.Truth.{choice}

-- For a divisor above 0 the dividend is quotient × divisor + remainder, and the remainder is below the divisor.
pub division : (x y : ℕ) → 0 < y → (compute divide x y * y + compute remainder x y ≡ x) × (compute remainder x y < y)
unfolding compute
division x y h = rw (ne_eqb y 0 (omega arith)) (div-add-mod' x y, mod-lt x h)

-- For 0 the quotient is 2^32 - 1 and the remainder the dividend.
pub division_by_zero : (x : ℕ) → (compute divide x 0 ≡ 2 ^ 32 - 1) × (compute remainder x 0 ≡ x)
unfolding compute
division_by_zero x = (refl, refl)

-- Each takes 34 ticks, whatever the operands are and whoever may see them.
pub division_ticks : (visible : Bool) (y : ℕ)
    → (arithmetic_ticks divide visible y ≡ 34) × (arithmetic_ticks remainder visible y ≡ 34)
division_ticks visible y = (refl, refl)

-- So it is in every state, at every word.
pub division_steady : (s : State) (w : ℕ)
    → ((table s w (arithmetic divide)).ticks ≡ 34) × ((table s w (arithmetic remainder)).ticks ≡ 34)
unfolding table
division_steady s w = (refl, refl)

-- Both have 32 bits.
pub division_lt : (x y : ℕ) → x < 2 ^ 32 → (compute divide x y < 2 ^ 32) × (compute remainder x y < 2 ^ 32)
unfolding compute
division_lt x y h = (
  choice (λ (n : ℕ). n < 2 ^ 32) (eqb y 0) _ _ (λ e. lit< tt) (λ e. lt_of_le_of_lt (div-le_self x y) h),
  choice (λ (n : ℕ). n < 2 ^ 32) (eqb y 0) _ _ (λ e. h) (λ e. lt_of_le_of_lt (mod-le x y) h),
)
