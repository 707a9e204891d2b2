-- Laws about the turns that functions of the hot loop answer: one that did a step took a tick or more, and fewer than
-- were left. Assumes nothing.
use Rattle.std.proofs.Common.{◌≡◌, ℕ, ◌<◌, Bool, not, ◌&&◌, ltb, sym, subst, arith, ltb-true}
use Rattle.model.proofs.Truth.{choice}
use Rattle.parts.specs.declared.stages.Reason.{Reason}
use Rattle.parts.specs.declared.stages.Reason.TheVariants.{Late, Failed}
use Rattle.turns.specs.declared.Spot.{Spot}
use Rattle.turns.specs.declared.Turn.{Turn}
use Rattle.turns.specs.declared.Turn.TheVariants.{Going, Stopping}
use Rattle.turns.specs.Turns.{next, timed, gone}
use Rattle.sprint.specs.Inner.Turns.{Forward}

module _ (spot : Spot) where
  -- One that did a step if its ticks are fewer than were left.
  in_time_lem : (ticks pc : ℕ) → 0 < ticks → Forward spot (timed ticks pc spot.left)
  in_time_lem ticks pc p =
      choice (Forward spot) (ltb ticks spot.left) (Going pc ticks) (Stopping Late)
      (λ q. (p, ltb-true ticks spot.left q)) (λ q. tt)

  module _ {r : Turn} where
    -- The same of an answer: no step.
    pub stopping_forward : (reason : Reason) → r ≡ Stopping reason → Forward spot r
    stopping_forward reason e = subst (Forward spot) (sym e) tt

    -- A step in so many ticks.
    pub timed_forward : (ticks pc : ℕ) → 0 < ticks → r ≡ timed ticks pc spot.left → Forward spot r
    timed_forward ticks pc p e = subst (Forward spot) (sym e) (in_time_lem ticks pc p)

    -- A branch or jump.
    pub gone_forward : (ok taken : Bool) (target : ℕ) → r ≡ gone spot ok taken target → Forward spot r
    unfolding gone
    gone_forward ok taken target e =
        subst (Forward spot) (sym e)
        (choice (Forward spot) (ok && taken) (timed 1 target spot.left) _ (λ q. in_time_lem 1 target (omega arith))
        (λ q.
        choice (Forward spot) (not ok && spot.context.up) (Stopping Failed) (timed 1 (next spot) spot.left) (λ x. tt)
        (λ x. in_time_lem 1 (next spot) (omega arith))))
