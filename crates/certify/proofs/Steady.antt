-- Common ops break nothing: they attempt no release, and leave the pair, the open calls and the fixed part.
-- Assumes nothing.
use Prim.Native.Nat.{ℕ, zero, suc, ◌+◌}
use mathlib.Core.Path.{◌≡◌, refl, sym, ◌∙◌}
use mathlib.Core.Bool.{true, false, ◌&&◌, and-false}
use lib.Dec.{ltb}
use Rattle.model.specs.declared.Control.{Control}
use Rattle.model.specs.Record.{State, newest, in_upcall}
use Rattle.model.specs.Word.{Op, immediate, arithmetic, load, store, branch, jump, read_clock, set_label, set_pair, upcall, end_upcall, gate_call, gate_return, halt}
use Rattle.model.specs.Ops.{Row, table}
use Rattle.model.specs.Step.{Fetched, failed, fetched, fetch, Decision, rest, spend, stall, close, carry, is_carried, end_tick, passed, attempt, in_time, plan, beyond_limit, in_limit, running, decide, control_after, changed, step}
use Rattle.noninterference.specs.Noninterference.{timed_from_outside}
use Rattle.certificates.specs.Certificate.{releases, attempts, at_large, breaks, watch}
use Rattle.model.proofs.Truth.{choice, clash, and_iff}
use Rattle.model.proofs.WellFormed.{step_fixed, step_control}
use Rattle.parts.specs.Stages.{is_common_op, fetches_common}
use Rattle.sprint.specs.Skim.{is_common, Skim, skim}
use Rattle.engine.specs.Stride.{fetches_relabelling}
use Rattle.engine.proofs.Skimming.{common_keeps}

-- ---- what a common op leaves

-- A control with the pair and the open calls of s.
pub record Steady (s : State) (c : Control) : Type 0 where
  pub pair : c.pair ≡ s.control.pair
  pub first : c.first ≡ s.control.first
  pub second : c.second ≡ s.control.second

-- A decision that is carried out leaves them.
abbrev Keeps : State → Decision → Type 0
Keeps s d = is_carried d ≡ true → Steady s (control_after s d)

module _ (s : State) where
  passed_keeps : (w ticks : ℕ) (op : Op) → is_common_op op ≡ true → Keeps s (passed ticks (table s w op).effect)
  unfolding table control_after changed
  passed_keeps w ticks immediate e h = record { pair = refl; first = refl; second = refl }
  passed_keeps w ticks (arithmetic f) e h = record { pair = refl; first = refl; second = refl }
  passed_keeps w ticks load e h = record { pair = refl; first = refl; second = refl }
  passed_keeps w ticks store e h = record { pair = refl; first = refl; second = refl }
  passed_keeps w ticks (branch f) e h = record { pair = refl; first = refl; second = refl }
  passed_keeps w ticks jump e h = record { pair = refl; first = refl; second = refl }
  passed_keeps w ticks read_clock e h = record { pair = refl; first = refl; second = refl }
  passed_keeps w ticks (set_label f) e h = clash refl (sym e)
  passed_keeps w ticks set_pair e h = clash refl (sym e)
  passed_keeps w ticks upcall e h = clash refl (sym e)
  passed_keeps w ticks end_upcall e h = clash refl (sym e)
  passed_keeps w ticks gate_call e h = clash refl (sym e)
  passed_keeps w ticks gate_return e h = clash refl (sym e)
  passed_keeps w ticks halt e h = clash refl (sym e)

  attempt_keeps : (r : Row) → Keeps s (passed r.ticks r.effect) → Keeps s (attempt s r)
  unfolding attempt control_after changed
  attempt_keeps r h =
      choice (Keeps s) r.check _ _ (λ e. h)
      (λ e.
      choice (Keeps s) (r.strict && in_upcall s.control) _ _ (λ u x. clash x refl)
      (λ u x. record { pair = refl; first = refl; second = refl }))

  time_keeps : (d : Decision) → Keeps s d → Keeps s (in_time s d)
  time_keeps rest h = h
  time_keeps spend h = h
  time_keeps (stall why) h = h
  time_keeps (close cause) h = h
  time_keeps (carry ticks c) h =
      choice (Keeps s) (in_upcall s.control && ltb (end_tick s) (s.control.clock + ticks)) _ _ (λ e x. clash x refl) (λ e. h)

  plan_keeps : (f : Fetched) → fetches_common f ≡ true → Keeps s (plan s f)
  plan_keeps (failed why) e = clash refl (sym e)
  plan_keeps (fetched w op) e =
      time_keeps (attempt s (table s w op)) (attempt_keeps (table s w op) (passed_keeps w (table s w op).ticks op e))

  decide_keeps : fetches_common (fetch s) ≡ true → Keeps s (decide s)
  unfolding decide in_limit
  decide_keeps e =
      choice (Keeps s) (running s) _ _
      (λ r. choice (Keeps s) (beyond_limit s (plan s (fetch s))) _ _ (λ b x. clash x refl) (λ b. plan_keeps (fetch s) e))
      (λ r x. clash x refl)

  common_steady : is_common s ≡ true → Steady s (step s).control
  unfolding is_common
  common_steady e =
      let h = (and_iff (is_carried (decide s)) (fetches_common (fetch s))).0 e in rw (step_control s) (decide_keeps h.1 h.0)

-- ---- so it breaks nothing

-- A state with these parts of another breaks as that does.
steady_breaks : (ℓ : ℕ) (s t : State) → t.fixed ≡ s.fixed → Steady s t.control → breaks ℓ t ≡ breaks ℓ s
unfolding breaks at_large timed_from_outside in_upcall newest
steady_breaks ℓ s t e h = rw (e, h.pair, h.first, h.second)

-- What relabels nothing attempts nothing.
releases_none : (ℓ : ℕ) (s : State) (f : Fetched) → fetches_relabelling f ≡ false → releases ℓ s f ≡ false
releases_none ℓ s (failed why) e = refl
releases_none ℓ s (fetched w op) e = rw e

pub keeping_quiet : (ℓ : ℕ) (s : State) → fetches_relabelling (fetch s) ≡ false → attempts ℓ s ≡ false
unfolding attempts
keeping_quiet ℓ s e = rw (releases_none ℓ s (fetch s) e, and-false)

pub common_quiet : (ℓ : ℕ) (s : State) → is_common s ≡ true → attempts ℓ s ≡ false
unfolding is_common
common_quiet ℓ s e =
    keeping_quiet ℓ s (common_keeps (fetch s) ((and_iff (is_carried (decide s)) (fetches_common (fetch s))).0 e).1)

-- ---- for as long as they come

-- What holds where the common ops end, of the n steps from s.
pub record Skimmed (ℓ n : ℕ) (s : State) (k : Skim) : Type 0 where
  pub watched : watch ℓ n s ≡ watch ℓ k.left k.state
  pub unbroken : breaks ℓ k.state ≡ false
  pub fixed : k.state.fixed ≡ s.fixed

pub skimmed : (ℓ n : ℕ) (s : State) → breaks ℓ s ≡ false → Skimmed ℓ n s (skim n s)
unfolding skim watch
skimmed ℓ zero s b = record { watched = refl; unbroken = b; fixed = refl }
skimmed ℓ (suc n) s b =
    choice (Skimmed ℓ (suc n) s) (is_common s) _ _
    (λ c.
    let b' : breaks ℓ (step s) ≡ false = steady_breaks ℓ s (step s) (step_fixed s) (common_steady s c) ∙ b in
    let h = skimmed ℓ n (step s) b' in
    record {
      watched = rw (common_quiet ℓ s c, b') h.watched;
      unbroken = h.unbroken;
      fixed = h.fixed ∙ step_fixed s;
    })
    (λ c. record { watched = refl; unbroken = b; fixed = refl })
