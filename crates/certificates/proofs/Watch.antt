-- The first break of a run, as a fact about its steps: it is what `certify` gives, and up to which tick a state is
-- certified goes by it.
-- Assumes nothing.
use Prim.Native.Nat.{ℕ, zero, suc, ◌-◌, ◌<◌, ◌≤◌}
use mathlib.Core.Path.{◌≡◌, refl, ap, ◌∙◌, subst}
use mathlib.Core.Logic.{◌⊎◌, inl, inr, ⊎_elim}
use mathlib.Core.Bool.{Bool, true, false}
use native.Mathlib.Omega.{arith}
use lib.Dec.{eqb}
use Rattle.model.specs.Record.{State}
use Rattle.model.specs.Step.{running, decide, step, steps}
use Rattle.certificates.specs.Certificate.{attempts, at_large, Certified, Certificate, whole, release_from, breaks, break_at, watch, certify}
use Rattle.model.proofs.Truth.{choice, either, clash}
use Rattle.model.proofs.WellFormed.{step_fixed}
use Rattle.model.proofs.Ready.{Ready}
use Rattle.model.proofs.Step.{step_ready, step_ended, step_passes}
use Rattle.model.proofs.Run.{steps_leave}
use Rattle.certificates.proofs.Attempts.{unbroken}

-- The first break behind a state: its step attempts a release, or the state after it is broken, or it comes later.
pub data Breaks (ℓ : ℕ) : State → Certificate → Type 0 where
  attempted : {s : State} → attempts ℓ s ≡ true → Breaks ℓ s (release_from s)
  broken : {s : State} → attempts ℓ s ≡ false → breaks ℓ (step s) ≡ true → Breaks ℓ s (break_at ℓ (step s))
  later : {s : State} {c : Certificate} → attempts ℓ s ≡ false → breaks ℓ (step s) ≡ false → Breaks ℓ (step s) c → Breaks ℓ s c

-- ---- what a break says

-- A broken state's certificate has a cause, and its tick is the clock.
pub break_cause : (ℓ : ℕ) (s : State) → ((break_at ℓ s).cause ≡ 0 → ⊥) × ((break_at ℓ s).tick ≡ s.control.clock)
unfolding break_at
break_cause ℓ s =
    choice (λ (c : Certificate). (c.cause ≡ 0 → ⊥) × (c.tick ≡ s.control.clock)) (at_large ℓ s) _ _
    (λ _. ((λ e. omega arith), refl)) (λ _. ((λ e. omega arith), refl))

-- So has every break's.
pub breaks_cause : {ℓ : ℕ} {s : State} {c : Certificate} → Breaks ℓ s c → c.cause ≡ 0 → ⊥
breaks_cause (attempted a) e = omega arith
breaks_cause {ℓ} (broken {s = s} a b) e = (break_cause ℓ (step s)).0 e
breaks_cause (later a b more) e = breaks_cause more e

-- ---- an ended record breaks nothing any more

-- It attempts nothing.
pub ended_quiet : (ℓ : ℕ) (s : State) → running s ≡ false → attempts ℓ s ≡ false
unfolding attempts decide
ended_quiet ℓ s e = rw e

pub ended_whole : {ℓ : ℕ} {s : State} {c : Certificate} → running s ≡ false → breaks ℓ s ≡ false → Breaks ℓ s c → ⊥
ended_whole {ℓ} {s} e n (attempted a) = clash a (ended_quiet ℓ s e)
ended_whole {ℓ} {s} e n (broken a b) = clash b (ap (breaks ℓ) (step_ended s e) ∙ n)
ended_whole {ℓ} {s} e n (later a b more) =
    ended_whole (ap running (step_ended s e) ∙ e) b more

-- ---- watching finds it

-- What watching gives is no break, or the first.
watched : (ℓ n : ℕ) (s : State) → (watch ℓ n s ≡ whole) ⊎ Breaks ℓ s (watch ℓ n s)
unfolding watch
watched ℓ zero s = inl refl
watched ℓ (suc n) s =
    choice First (attempts ℓ s) _ _ (λ e. inr (attempted e))
    (λ e. choice First (breaks ℓ (step s)) _ _ (λ f. inr (broken e f))
    (λ f. ⊎_elim inl (λ (h : Breaks ℓ (step s) (watch ℓ n (step s))). inr (later e f h)) (watched ℓ n (step s))))
  where
    First : Certificate → Type 0
    First c = (c ≡ whole) ⊎ Breaks ℓ s c

-- More steps than the clock has ticks to the limit are enough to find it.
found : {ℓ : ℕ} {s : State} {c : Certificate} → Ready s → breaks ℓ s ≡ false → Breaks ℓ s c → (n : ℕ)
    → s.fixed.limit - s.control.clock < n → watch ℓ n s ≡ c
unfolding watch
found r m b zero h = absurd (omega arith)
found r m (attempted a) (suc n) h = rw a
found r m (broken a b) (suc n) h = rw (a, b)
found {ℓ} {s} r m (later a b more) (suc n) h =
    rw (a, b)
    (let p = step_passes s r in
    ⊎_elim
    (λ (u : running s ≡ true).
    ⊎_elim
    (λ (k : s.control.clock < (step s).control.clock).
    found {s = step s} (step_ready s r) b more n (rw (step_fixed s) (omega (arith, p.limited))))
    (λ (e : eqb (step s).control.end 0 ≡ false).
    let x : running (step s) ≡ false = unfold running in e in absurd (ended_whole x b more))
    (p.progress u))
    (λ (e : running s ≡ false). absurd (ended_whole e m (later a b more)))
    (either (running s)))

-- What `certify` gives of a state that isn't broken itself is no break, or the first.
module _ (ℓ : ℕ) (s : State) (r : Ready s) (n : breaks ℓ s ≡ false) where
  pub certify_breaks : (certify ℓ s ≡ whole) ⊎ Breaks ℓ s (certify ℓ s)
  unfolding certify
  certify_breaks = rw n (watched ℓ _ s)

  pub certify_found : {c : Certificate} → Breaks ℓ s c → certify ℓ s ≡ c
  unfolding certify
  certify_found b = rw n (found r n b _ (omega arith))

-- Of one that is broken it is that break.
pub certify_broken : (ℓ : ℕ) (s : State) → breaks ℓ s ≡ true → certify ℓ s ≡ break_at ℓ s
unfolding certify
certify_broken ℓ s b = rw b

-- ---- certified up to a tick

-- As long as no break has come, nothing was attempted and no state was broken.
clean : (ℓ k n : ℕ) (s : State) → Ready s → breaks ℓ s ≡ false → ((c : Certificate) → Breaks ℓ s c → k < c.tick)
    → ((steps n s).control.clock ≤ k → breaks ℓ (steps n s) ≡ false)
    × ((steps (suc n) s).control.clock ≤ k → attempts ℓ (steps n s) ≡ false)
unfolding steps
clean ℓ k zero s r m h = ((λ l. m), λ l. go (attempts ℓ s) refl l)
  where
    go : (b : Bool) → attempts ℓ s ≡ b → (step s).control.clock ≤ k → b ≡ false
    go false e l = refl
    go true e l = let x = h (release_from s) (attempted e) in absurd (omega arith)
clean ℓ k (suc n) s r m h =
    ⊎_elim
    (λ (e : attempts ℓ s ≡ true). past (h (release_from s) (attempted e)))
    (λ (e : attempts ℓ s ≡ false).
    ⊎_elim
    (λ (f : breaks ℓ (step s) ≡ true).
    past (subst (λ (j : ℕ). k < j) (break_cause ℓ (step s)).1 (h (break_at ℓ (step s)) (broken e f))))
    (λ (f : breaks ℓ (step s) ≡ false). clean ℓ k n (step s) (step_ready s r) f (λ c b. h c (later e f b)))
    (either (breaks ℓ (step s))))
    (either (attempts ℓ s))
  where
    -- Past k there is nothing to show.
    past : k < (step s).control.clock
        → ((steps n (step s)).control.clock ≤ k → breaks ℓ (steps n (step s)) ≡ false)
        × ((steps (suc n) (step s)).control.clock ≤ k → attempts ℓ (steps n (step s)) ≡ false)
    past x =
        let y = (steps_leave n (step s) (step_ready s r)).clock in
        let z = (steps_leave (suc n) (step s) (step_ready s r)).clock in
        ((λ l. absurd (omega arith)), λ l. absurd (omega arith))

-- A state whose breaks all come after k is certified up to k.
pub certified_until : (ℓ k : ℕ) (s : State) → Ready s → breaks ℓ s ≡ false → ((c : Certificate) → Breaks ℓ s c → k < c.tick)
    → Certified ℓ k s
certified_until ℓ k s r m h =
    record {
      release = λ n l. (clean ℓ k n s r m h).1 l;
      gate = λ n l. (unbroken ℓ (steps n s) ((clean ℓ k n s r m h).0 l)).0;
      timing = λ n l. (unbroken ℓ (steps n s) ((clean ℓ k n s r m h).0 l)).1;
    }

-- A certified state isn't broken.
pub certified_unbroken : (ℓ k n : ℕ) (s : State) → Certified ℓ k s → (steps n s).control.clock ≤ k → breaks ℓ (steps n s) ≡ false
unfolding breaks
certified_unbroken ℓ k n s h l = rw (h.gate n l, h.timing n l)

-- The state after n steps is certified where the one before is.
pub certified_step : (ℓ k : ℕ) (s : State) → Certified ℓ k s → Certified ℓ k (step s)
unfolding steps
certified_step ℓ k s h =
    record { release = λ n. h.release (suc n); gate = λ n. h.gate (suc n); timing = λ n. h.timing (suc n) }

-- A break at or before k leaves no certificate up to k.
pub uncertified : {ℓ k : ℕ} {s : State} {c : Certificate} → Breaks ℓ s c → c.tick ≤ k → Certified ℓ k s → ⊥
unfolding steps
uncertified (attempted a) l h = clash a (h.release 0 l)
uncertified {ℓ} {k} (broken {s = s} a b) l h =
    clash b (certified_unbroken ℓ k 1 s h (subst (λ (j : ℕ). j ≤ k) (break_cause ℓ (step s)).1 l))
uncertified {ℓ} {k} {s} (later a b more) l h = uncertified more l (certified_step ℓ k s h)
