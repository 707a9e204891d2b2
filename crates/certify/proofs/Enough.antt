-- Numbers of steps that are enough to end a run: all of them give one state and one certificate. And a stride: what it
-- leaves of enough steps is enough, and it ends the run or lets the clock grow.
-- Assumes nothing.
use Prim.Native.Nat.{ℕ, zero, suc, ◌+◌, ◌<◌, ◌≤◌}
use mathlib.Core.Path.{◌≡◌, refl, sym, ap, ◌∙◌}
use mathlib.Core.Logic.{⊎_elim}
use mathlib.Core.Bool.{Bool, true, false, cond}
use native.Mathlib.Nat.{le_refl}
use native.Mathlib.Omega.{arith}
use lib.Dec.{eqb}
use borrow.Author.Tests.{eqb-true}
use Rattle.model.specs.Record.{State}
use Rattle.model.specs.Step.{running, step, steps}
use Rattle.certificates.specs.Certificate.{attempts, Certificate, whole, release_from, breaks, break_at, watch}
use Rattle.model.proofs.Truth.{choice, either, clash}
use Rattle.model.proofs.WellFormed.{step_fixed}
use Rattle.model.proofs.Ready.{Ready}
use Rattle.model.proofs.Step.{step_ready, step_ended, step_passes}
use Rattle.model.proofs.Run.{steps_ended}
use Rattle.certificates.proofs.Watch.{ended_quiet}
use Rattle.sprint.specs.Skim.{is_common, Skim, skim}
use Rattle.engine.specs.Stride.{ends, stride, run_count}
use Rattle.engine.proofs.Skimming.{skim_stays, ends_first}
use Rattle.certify.proofs.Turn.{resume}

-- ---- one step

-- While the record runs, so many steps are more than its clock has ticks to the limit.
abbrev pub Enough : ℕ → State → Type 0
Enough n s = running s ≡ true → s.fixed.limit < n + s.control.clock

-- As many as a run can take are enough.
pub count_enough : (s : State) → Enough (run_count s) s
count_enough s u = omega arith

-- Of an ended record any number is.
pub ended_enough : (n : ℕ) (s : State) → running s ≡ false → Enough n s
ended_enough n s e u = clash u e

-- Where none is, the record has ended.
none_enough : (s : State) → Ready s → Enough 0 s → running s ≡ false
none_enough s r h =
    ⊎_elim (λ (u : running s ≡ true). absurd (omega (arith, h u, r.fit.clock))) (λ (u : running s ≡ false). u)
    (either (running s))

-- A record that runs behind s ran there, at an earlier clock.
abbrev Grown : State → State → Type 0
Grown s t = running t ≡ true → (running s ≡ true) × (s.control.clock < t.control.clock)

-- The same, where nothing may have been done.
abbrev Risen : State → State → Type 0
Risen s t = running t ≡ true → (running s ≡ true) × (s.control.clock ≤ t.control.clock)

-- A step.
step_grown : (s : State) → Ready s → Grown s (step s)
step_grown s r v =
    ⊎_elim
    (λ (u : running s ≡ true).
    ⊎_elim
    (λ (k : s.control.clock < (step s).control.clock). (u, k))
    (λ (e : eqb (step s).control.end 0 ≡ false). let x : running (step s) ≡ false = unfold running in e in clash v x)
    ((step_passes s r).progress u))
    (λ (e : running s ≡ false). clash v (ap running (step_ended s e) ∙ e))
    (either (running s))

-- Of enough steps, all but one are enough behind it.
step_enough : (n m : ℕ) (s : State) → Ready s → n ≤ suc m → Enough n s → Enough m (step s)
step_enough n m s r l h v =
    let g = step_grown s r v in rw (step_fixed s) (omega (arith, g.1, h g.0, r.fit.clock, l))

-- ---- steps and certificates

-- They give one state.
pub steps_enough : (m n : ℕ) (s : State) → Ready s → Enough m s → Enough n s → steps m s ≡ steps n s
unfolding steps
steps_enough zero n s r h k = sym (steps_ended n s (none_enough s r h))
steps_enough (suc m) zero s r h k = steps_ended (suc m) s (none_enough s r k)
steps_enough (suc m) (suc n) s r h k =
    steps_enough m n (step s) (step_ready s r) (step_enough (suc m) m s r (le_refl _) h) (step_enough (suc n) n s r (le_refl _) k)

-- An ended record breaks nothing any more.
watch_ended : (ℓ n : ℕ) (s : State) → running s ≡ false → breaks ℓ s ≡ false → watch ℓ n s ≡ whole
unfolding watch
watch_ended ℓ zero s e b = refl
watch_ended ℓ (suc n) s e b = rw (ended_quiet ℓ s e, step_ended s e, b) (watch_ended ℓ n s e b)

-- They find one break.
watch_enough : (ℓ m n : ℕ) (s : State) → Ready s → breaks ℓ s ≡ false → Enough m s → Enough n s → watch ℓ m s ≡ watch ℓ n s
unfolding watch
watch_enough ℓ zero n s r b h k = sym (watch_ended ℓ n s (none_enough s r h) b)
watch_enough ℓ (suc m) zero s r b h k = watch_ended ℓ (suc m) s (none_enough s r k) b
watch_enough ℓ (suc m) (suc n) s r b h k =
    ap (cond (attempts ℓ s) (release_from s))
    (go (breaks ℓ (step s))
    (λ e.
    watch_enough ℓ m n (step s) (step_ready s r) e (step_enough (suc m) m s r (le_refl _) h)
    (step_enough (suc n) n s r (le_refl _) k)))
  where
    go : (c : Bool) → (c ≡ false → watch ℓ m (step s) ≡ watch ℓ n (step s))
        → cond c (break_at ℓ (step s)) (watch ℓ m (step s)) ≡ cond c (break_at ℓ (step s)) (watch ℓ n (step s))
    go true e = refl
    go false e = e refl

-- The same behind what was found so far.
pub resume_enough : (ℓ m n : ℕ) (c : Certificate) (s : State) → Ready s → (c.cause ≡ 0 → breaks ℓ s ≡ false) → Enough m s
    → Enough n s → resume ℓ c m s ≡ resume ℓ c n s
unfolding resume
resume_enough ℓ m n c s r b h k = go (eqb c.cause 0) refl
  where
    go : (d : Bool) → eqb c.cause 0 ≡ d → cond d (watch ℓ m s) c ≡ cond d (watch ℓ n s) c
    go true e = watch_enough ℓ m n s r (b (eqb-true c.cause 0 e)) h k
    go false e = refl

-- ---- a stride

-- What holds behind some of enough steps from s.
pub record Behind (s : State) (k : Skim) : Type 0 where
  pub ready : Ready k.state
  pub enough : Enough k.left k.state
  pub risen : Risen s k.state

-- Behind a step and more.
behind_step : (s : State) (k : Skim) → Ready s → Behind (step s) k → Grown s k.state
behind_step s k r h v = let a = h.risen v in let b = step_grown s r a.0 in (b.0, omega (arith, a.1, b.1))

-- Common ops.
skim_behind : (n : ℕ) (s : State) → Ready s → Enough n s → Behind s (skim n s)
unfolding skim
skim_behind zero s r h = record { ready = r; enough = h; risen = λ v. (v, omega arith) }
skim_behind (suc n) s r h =
    choice (Behind s) (is_common s) _ _
    (λ c.
    let k = skim_behind n (step s) (step_ready s r) (step_enough (suc n) n s r (le_refl _) h) in
    record { ready = k.ready; enough = k.enough; risen = λ v. let g = behind_step s _ r k v in (g.0, omega (arith, g.1)) })
    (λ c. record { ready = r; enough = h; risen = λ v. (v, omega arith) })

-- Some of them.
skim_grown : (n : ℕ) (s : State) → Ready s → Enough n s → 0 < n → is_common s ≡ true → Grown s (skim n s).state
unfolding skim
skim_grown zero s r h l c = absurd (omega arith)
skim_grown (suc n) s r h l c =
    rw c (behind_step s _ r (skim_behind n (step s) (step_ready s r) (step_enough (suc n) n s r (le_refl _) h)))

-- What holds behind a stride of enough steps from s.
pub record Strode (s : State) (k : Skim) : Type 0 where
  pub ready : Ready k.state
  pub enough : Enough k.left k.state
  pub grown : running k.state ≡ true → s.control.clock < k.state.control.clock

-- A stride.
pub strode_behind : (n : ℕ) (s : State) → Ready s → Enough n s → 0 < n → Strode s (stride n s)
unfolding stride
strode_behind n s r h l =
    choice (Strode s) (ends n (skim n s)) _ _
    (λ e. record { ready = k.ready; enough = k.enough; grown = λ v. (some e v).1 })
    (λ e. record {
      ready = step_ready _ k.ready;
      enough = step_enough _ _ _ k.ready (omega arith) k.enough;
      grown = λ v. let g = step_grown _ k.ready v in let q = k.risen g.0 in omega (arith, g.1, q.1);
    })
  where
    k : Behind s (skim n s)
    k = skim_behind n s r h

    some : ends n (skim n s) ≡ true → Grown s (skim n s).state
    some e =
        ⊎_elim (λ (c : is_common s ≡ true). skim_grown n s r h l c)
        (λ (c : is_common s ≡ false). clash e (ap (ends n) (skim_stays n s c) ∙ ends_first n s l))
        (either (is_common s))
