-- A stride looked at: the first break of the run is that of the stride, or comes behind it.
-- Assumes nothing.
use Prim.Native.Nat.{ℕ, zero, suc, ◌+◌, ◌-◌, ◌<◌, ◌≤◌}
use mathlib.Core.Path.{◌≡◌, refl, sym, ap, ◌∙◌}
use mathlib.Core.Logic.{⊎_elim}
use mathlib.Core.Bool.{Bool, true, false, not, ◌&&◌, ◌||◌, cond}
use native.Mathlib.Omega.{arith}
use lib.Dec.{ltb, eqb}
use borrow.Author.Tests.{lt-ltb, eqb-true, eqb-false}
use Rattle.model.specs.Record.{State, in_upcall}
use Rattle.model.specs.Step.{fetch, step, steps}
use Rattle.model.specs.Seen.{within}
use Rattle.noninterference.specs.Noninterference.{timed_from_outside}
use Rattle.certificates.specs.Certificate.{attempts, leads_within, at_large, Certificate, whole, release_from, breaks, break_at, watch, certify}
use Rattle.model.proofs.Truth.{choice, either, or_iff}
use Rattle.model.proofs.WellFormed.{step_fixed}
use Rattle.sprint.specs.Skim.{is_common, Skim, skim}
use Rattle.engine.specs.Stride.{fetches_relabelling, ends, stride}
use Rattle.engine.proofs.Skimming.{skim_steps, skim_stays, stride_ends, stride_goes, ends_first}
use Rattle.certify.specs.Inner.Breaks.{break_with}
use Rattle.certify.proofs.Steady.{keeping_quiet, common_quiet, Skimmed, skimmed}

-- ---- the break that a state is, or none

unfoldable pub break_of : ℕ → State → Certificate
break_of ℓ s = cond (breaks ℓ s) (break_at ℓ s) whole

-- It is what the code finds, where `opened` is right.
pub break_with_lem : (ℓ : ℕ) (s : State) {opened : Bool} → opened ≡ leads_within ℓ s.fixed s.fixed.count
    → break_with ℓ opened s.control ≡ break_of ℓ s
unfolding break_with break_of breaks break_at at_large timed_from_outside
break_with_lem ℓ s e =
    rw e
    (pick (not (within ℓ s.control.pair.pc) && not (in_upcall s.control) && leads_within ℓ s.fixed s.fixed.count)
    (within ℓ s.control.pair.pc && not (within ℓ s.control.pair.timing))
    (record { cause = 2; tick = s.control.clock; place = 0 })
    (record { cause = 3; tick = s.control.clock; place = s.control.pc })
    whole)
  where
    pick : (a b : Bool) (x y z : Certificate) → cond a x (cond b y z) ≡ cond (a || b) (cond a x y) z
    pick true b x y z = refl
    pick false b x y z = refl

-- Where it has no cause, the state isn't broken.
pub break_none : (ℓ : ℕ) (s : State) → (break_of ℓ s).cause ≡ 0 → (breaks ℓ s ≡ false) × (break_of ℓ s ≡ whole)
unfolding break_of break_at
break_none ℓ s = go (breaks ℓ s) (at_large ℓ s)
  where
    go : (b a : Bool)
        → (cond b (cond a (record { cause = 2; tick = s.control.clock; place = 0 }) (record { cause = 3; tick = s.control.clock; place = s.control.pc })) whole).cause ≡ 0
        → (b ≡ false)
        × (cond b (cond a (record { cause = 2; tick = s.control.clock; place = 0 }) (record { cause = 3; tick = s.control.clock; place = s.control.pc })) whole ≡ whole)
    go true true e = absurd (omega arith)
    go true false e = absurd (omega arith)
    go false a e = (refl, refl)

break_whole : (ℓ : ℕ) (s : State) → breaks ℓ s ≡ false → break_of ℓ s ≡ whole
unfolding break_of
break_whole ℓ s e = rw e

-- ---- what was found so far, and what comes behind it

-- The certificate that was found; or where it has no cause, the first break in n more steps.
unfoldable pub resume : ℕ → Certificate → ℕ → State → Certificate
resume ℓ c n s = cond (eqb c.cause 0) (watch ℓ n s) c

resume_break : (ℓ n : ℕ) (s : State) → resume ℓ (break_of ℓ s) n s ≡ cond (breaks ℓ s) (break_at ℓ s) (watch ℓ n s)
unfolding resume break_of break_at
resume_break ℓ n s = go (breaks ℓ s) (at_large ℓ s)
  where
    go : (b a : Bool)
        → resume ℓ (cond b (cond a (record { cause = 2; tick = s.control.clock; place = 0 }) (record { cause = 3; tick = s.control.clock; place = s.control.pc })) whole) n s
        ≡ cond b (cond a (record { cause = 2; tick = s.control.clock; place = 0 }) (record { cause = 3; tick = s.control.clock; place = s.control.pc })) (watch ℓ n s)
    go true true = refl
    go true false = refl
    go false a = refl

-- The loaded state.
pub resume_start : (ℓ : ℕ) (s : State) → certify ℓ s ≡ resume ℓ (break_of ℓ s) (s.fixed.limit - s.control.clock + 1) s
unfolding certify
resume_start ℓ s = sym (resume_break ℓ (s.fixed.limit - s.control.clock + 1) s)

-- No step is left.
pub resume_none : (ℓ : ℕ) (c : Certificate) (s : State) → (c.cause ≡ 0 → c ≡ whole) → resume ℓ c 0 s ≡ c
unfolding resume watch
resume_none ℓ c s w = go (eqb c.cause 0) refl
  where
    go : (b : Bool) → eqb c.cause 0 ≡ b → cond b whole c ≡ c
    go true e = sym (w (eqb-true c.cause 0 e))
    go false e = refl

-- A break was found.
pub resume_found : (ℓ n : ℕ) (c : Certificate) (s : State) → eqb c.cause 0 ≡ false → resume ℓ c n s ≡ c
unfolding resume
resume_found ℓ n c s e = rw e

-- None was.
pub resume_watch : (ℓ n : ℕ) (c : Certificate) (s : State) → eqb c.cause 0 ≡ true → resume ℓ c n s ≡ watch ℓ n s
unfolding resume
resume_watch ℓ n c s e = rw e

-- ---- a stride

-- The break of a stride from s to t.
unfoldable pub first_of : ℕ → State → State → Certificate
first_of ℓ s t = cond (attempts ℓ s) (record { cause = 1; tick = t.control.clock; place = s.control.pc }) (break_of ℓ t)

-- Where it has no cause, t isn't broken.
pub first_none : (ℓ : ℕ) (s t : State) → (first_of ℓ s t).cause ≡ 0 → (breaks ℓ t ≡ false) × (first_of ℓ s t ≡ whole)
unfolding first_of
first_none ℓ s t = go (attempts ℓ s)
  where
    go : (b : Bool) → (cond b (record { cause = 1; tick = t.control.clock; place = s.control.pc }) (break_of ℓ t)).cause ≡ 0
        → (breaks ℓ t ≡ false)
        × (cond b (record { cause = 1; tick = t.control.clock; place = s.control.pc }) (break_of ℓ t) ≡ whole)
    go true e = absurd (omega arith)
    go false e = break_none ℓ t e

-- One step.
one_step : (ℓ n : ℕ) (s : State) → 0 < n → watch ℓ n s ≡ resume ℓ (first_of ℓ s (step s)) (n - 1) (step s)
unfolding watch first_of resume
one_step ℓ zero s h = absurd (omega arith)
one_step ℓ (suc n) s h =
    let e : n ≡ suc n - 1 = omega arith in
    ap (λ (m : ℕ). cond (attempts ℓ s) (release_from s) (cond (breaks ℓ (step s)) (break_at ℓ (step s)) (watch ℓ m (step s)))) e
    ∙ go (attempts ℓ s) (suc n - 1)
  where
    go : (b : Bool) (m : ℕ)
        → cond b (release_from s) (cond (breaks ℓ (step s)) (break_at ℓ (step s)) (watch ℓ m (step s)))
        ≡ resume ℓ (cond b (record { cause = 1; tick = (step s).control.clock; place = s.control.pc }) (break_of ℓ (step s))) m (step s)
    go true m = refl
    go false m = sym (resume_break ℓ m (step s))

-- What holds behind a stride of n steps from s.
pub record Turned (ℓ n : ℕ) (s : State) (k : Skim) : Type 0 where
  pub watched : watch ℓ n s ≡ resume ℓ (first_of ℓ s k.state) k.left k.state
  pub run : steps n s ≡ steps k.left k.state
  pub fixed : k.state.fixed ≡ s.fixed

skim_most : (n : ℕ) (s : State) → (skim n s).left ≤ n
unfolding skim
skim_most zero s = omega arith
skim_most (suc n) s =
    choice (λ (k : Skim). k.left ≤ suc n) (is_common s) _ _ (λ c. omega (arith, skim_most n (step s))) (λ c. omega arith)

skim_fewer : (n : ℕ) (s : State) → 0 < n → is_common s ≡ true → (skim n s).left < n
unfolding skim
skim_fewer zero s h c = absurd (omega arith)
skim_fewer (suc n) s h c = rw c (omega (arith, skim_most n (step s)))

-- One of some steps, and the rest of them.
steps_one : (n : ℕ) (s : State) → 0 < n → steps n s ≡ steps (n - 1) (step s)
unfolding steps
steps_one zero s h = absurd (omega arith)
steps_one (suc n) s h = let e : n ≡ suc n - 1 = omega arith in ap (λ (m : ℕ). steps m (step s)) e

-- A step that does no common op.
turn_rest : (ℓ n : ℕ) (s : State) → 0 < n → is_common s ≡ false → Turned ℓ n s (stride n s)
turn_rest ℓ n s h e =
    rw (stride_goes n s (skim_stays n s e) (ends_first n s h))
    (record { watched = one_step ℓ n s h; run = steps_one n s h; fixed = step_fixed s })

-- Common ops, and a step behind them or none.
module _ (ℓ n : ℕ) (s : State) (h : 0 < n) (b : breaks ℓ s ≡ false) (c : is_common s ≡ true) where
  there : Skimmed ℓ n s (skim n s)
  there = skimmed ℓ n s b

  turn_ended : ends n (skim n s) ≡ true → Turned ℓ n s (stride n s)
  unfolding first_of resume
  turn_ended e =
      rw (stride_ends n s refl e)
      (record {
        watched = there.watched ∙ rw (common_quiet ℓ s c, break_whole ℓ (skim n s).state there.unbroken);
        run = skim_steps n s;
        fixed = there.fixed;
      })

  turn_onward : ends n (skim n s) ≡ false → Turned ℓ n s (stride n s)
  unfolding ends first_of
  turn_onward e =
      let parts = (or_iff (eqb (skim n s).left 0) (ltb (skim n s).left n && fetches_relabelling (fetch (skim n s).state))).0 e in
      let less = lt-ltb (skim n s).left n (skim_fewer n s h c) in
      let keeps : fetches_relabelling (fetch (skim n s).state) ≡ false = rw less at parts.1 in
      let some = above (skim n s).left (eqb-false (skim n s).left 0 parts.0) in
      rw (stride_goes n s refl e)
      (record {
        watched =
            there.watched ∙ one_step ℓ (skim n s).left (skim n s).state some
            ∙ rw (common_quiet ℓ s c, keeping_quiet ℓ (skim n s).state keeps);
        run = skim_steps n s ∙ steps_one (skim n s).left (skim n s).state some;
        fixed = step_fixed (skim n s).state ∙ there.fixed;
      })
    where
      above : (n : ℕ) → (n ≡ 0 → ⊥) → 0 < n
      above zero d = absurd (d refl)
      above (suc n) d = omega arith

  turn_common : Turned ℓ n s (stride n s)
  turn_common = ⊎_elim turn_ended turn_onward (either (ends n (skim n s)))

pub turn : (ℓ n : ℕ) (s : State) → 0 < n → breaks ℓ s ≡ false → Turned ℓ n s (stride n s)
turn ℓ n s h b =
    ⊎_elim (λ (c : is_common s ≡ true). turn_common ℓ n s h b c) (λ (c : is_common s ≡ false). turn_rest ℓ n s h c)
    (either (is_common s))
