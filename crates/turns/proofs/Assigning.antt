-- Laws about a register that is assigned.
-- Assumes nothing.
use Rattle.std.proofs.Common.{◌≡◌, ℕ, ◌<◌, Bool, true, false, cond, ◌&&◌, ltb, List, set, refl, ap, ◌∙◌, lt-ltb}
use Rattle.model.specs.Numbers.{register_count}
use Rattle.model.specs.Ops.{writable}
use Rattle.turns.specs.declared.Spot.{Spot}
use Rattle.turns.specs.declared.Turn.{Turn}
use Rattle.turns.specs.Turns.{next, timed, Taken, taken, assigned}

-- What holds besides changes nothing.
and_on : (a b : Bool) → b ≡ true → (a && b) ≡ a
and_on true b e = e
and_on false b e = refl

module _ (before : List ℕ) (a : ℕ) (ok : Bool) (v ticks : ℕ) (spot : Spot) {after : List ℕ} {r : Turn} where
  -- A register that there is: it got v by what else is asked.
  pub assigned_is : a < register_count → taken r after ≡ assigned before a ok v ticks spot
      → after ≡ cond (ltb ticks spot.left) (cond (ok && writable a) (set before a v) before) before
  unfolding assigned
  assigned_is b e =
      ap (λ (x : Taken). x.values) e
      ∙ ap (λ (x : Bool). cond (ltb ticks spot.left) (cond x (set before a v) before) before)
      (and_on (ok && writable a) (ltb a register_count) (lt-ltb a register_count b))

  -- The turn then.
  pub assigned_turn : taken r after ≡ assigned before a ok v ticks spot → r ≡ timed ticks (next spot) spot.left
  unfolding assigned
  assigned_turn e = ap (λ (x : Taken). x.turn) e

-- An arithmetic op puts what it computes, where its check passes.
pub assigned_if : (ok : Bool) (before : List ℕ) (a v u ticks : ℕ) (spot : Spot) {after : List ℕ} {r : Turn} → (ok ≡ true → v ≡ u)
    → taken r after ≡ assigned before a ok v ticks spot → taken r after ≡ assigned before a ok u ticks spot
unfolding assigned
assigned_if true before a v u ticks spot f e = rw (← f refl) e
assigned_if false before a v u ticks spot f e = e
