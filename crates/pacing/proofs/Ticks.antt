-- Laws about the tick by which a step has to finish.
-- Assumes nothing.
use Prim.Native.Nat.{ℕ, ◌≤◌, ◌<◌}
use native.Mathlib.Omega.{arith}
use lib.Dec.{ltb}
use borrow.Author.Tests.{ltb-true, ltb-false}
use Rattle.model.proofs.Truth.{choice}
use Rattle.parts.specs.Calls.{nearer}
use Rattle.pacing.specs.declared.Pace.{Pace}
use Rattle.pacing.specs.declared.Pace.TheVariants.{Once, Onward, Stride}
use Rattle.pacing.specs.Pace.{tick_of}

-- The tick of a pace is the limit at most, and a run's own tick.
pub tick_limit : (pace : Pace) (limit : ℕ) → tick_of pace limit ≤ limit
tick_limit Once limit = omega arith
tick_limit (Onward k) limit =
    choice (λ (x : ℕ). x ≤ limit) (ltb k limit) _ _ (λ l. let g = ltb-true k limit l in omega (arith, g)) (λ l. omega arith)
tick_limit Stride limit = omega arith

pub tick_own : (k limit : ℕ) → nearer k limit ≤ k
tick_own k limit = choice (λ (x : ℕ). x ≤ k) (ltb k limit) _ _ (λ l. omega arith) (λ l. ltb-false k limit l)

-- A tick before the limit is the nearer one.
pub tick_here : (k limit : ℕ) → nearer k limit < limit → k ≤ nearer k limit
tick_here k limit =
    choice (λ (x : ℕ). x < limit → k ≤ x) (ltb k limit) k limit (λ b y. omega arith) (λ b y. absurd (omega (arith, y)))
