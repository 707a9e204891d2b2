-- The laws of the run: it ends, it is its first step and then the run, and it leaves what a step leaves.
-- Assumes nothing.
use Prim.Native.Nat.{ℕ, zero, suc, ◌+◌, ◌-◌, ◌<◌, ◌≤◌}
use mathlib.Core.Path.{◌≡◌, refl, sym, ap, ◌∙◌}
use mathlib.Core.Logic.{⊎_elim}
use mathlib.Core.Bool.{true, false}
use native.Mathlib.Nat.{add_comm, suc-add, zero-add, le_refl, le_trans}
use native.Mathlib.Omega.{arith}
use lib.Dec.{eqb}
use lib.ListN.{drop}
use Rattle.model.specs.Record.{State}
use Rattle.model.specs.Step.{running, step, steps, run}
use Rattle.model.proofs.Truth.{either}
use Rattle.model.proofs.Writes.{lengths}
use Rattle.model.proofs.WellFormed.{step_fixed}
use Rattle.model.proofs.Ready.{Ready}
use Rattle.model.proofs.Step.{step_ready, step_ended, step_passes, step_lengths, step_beyond}

-- ---- so many steps

-- An ended record stays as it is.
pub steps_ended : (n : ℕ) (s : State) → running s ≡ false → steps n s ≡ s
unfolding steps
steps_ended zero s e = refl
steps_ended (suc n) s e = rw (step_ended s e) (steps_ended n s e)

-- First m steps and then n.
pub steps_add : (m n : ℕ) (s : State) → steps (m + n) s ≡ steps n (steps m s)
unfolding steps
steps_add zero n s = rw zero-add
steps_add (suc m) n s = rw suc-add (steps_add m n (step s))

-- Two numbers of steps that both end the run end in one state.
pub steps_agree : (m n : ℕ) (s : State) → running (steps m s) ≡ false → running (steps n s) ≡ false
    → steps m s ≡ steps n s
steps_agree m n s p q =
    sym (steps_add m n s ∙ steps_ended n (steps m s) p) ∙ ap (λ (k : ℕ). steps k s) (add_comm m n)
    ∙ steps_add n m s ∙ steps_ended m (steps n s) q

-- So many steps of a ready state give a ready state.
pub steps_ready : (n : ℕ) (s : State) → Ready s → Ready (steps n s)
unfolding steps
steps_ready zero s r = r
steps_ready (suc n) s r = steps_ready n (step s) (step_ready s r)

-- ---- the run ends

-- After more steps than the clock has ticks to the limit the record has ended.
enough : (n : ℕ) (s : State) → Ready s → s.fixed.limit - s.control.clock < n → running (steps n s) ≡ false
unfolding steps
enough zero s r h = absurd (omega arith)
enough (suc n) s r h =
    let p = step_passes s r in
    ⊎_elim
    (λ (u : running s ≡ true).
    ⊎_elim
    (λ (k : s.control.clock < (step s).control.clock).
    enough n (step s) (step_ready s r) (rw (step_fixed s) (omega arith)))
    (λ (e : eqb (step s).control.end 0 ≡ false).
    let x : running (step s) ≡ false = unfold running in e in rw (steps_ended n (step s) x) x)
    (p.progress u))
    (λ (e : running s ≡ false). rw (step_ended s e, steps_ended n s e) e)
    (either (running s))

-- A run ends with an end that isn't 0.
pub run_ends : (s : State) → Ready s → running (run s) ≡ false
unfolding run
run_ends s r = enough _ s r (omega arith)

-- A run is any number of steps that end the run.
pub run_steps : (n : ℕ) (s : State) → Ready s → running (steps n s) ≡ false → run s ≡ steps n s
unfolding run
run_steps n s r e = steps_agree _ n s (unfold run in run_ends s r) e

-- A run is its first step and then the run.
pub run_step : (s : State) → Ready s → run s ≡ run (step s)
unfolding run steps
run_step s r =
    run_steps (suc ((step s).fixed.limit - (step s).control.clock + 1)) s r (unfold run in run_ends (step s) (step_ready s r))

-- A run of a well-formed record gives a well-formed record.
pub run_ready : (s : State) → Ready s → Ready (run s)
unfolding run
run_ready s r = steps_ready _ s r

-- ---- what is left

-- What a step and a run leave: size, limit, error pc and gates; the lengths; words and labels at or beyond the size; and
-- the clock does not fall.
pub record Leaves (s t : State) : Type 0 where
  pub fixed : t.fixed ≡ s.fixed
  pub lengths : lengths t ≡ lengths s
  pub words : drop s.fixed.size t.memory.values ≡ drop s.fixed.size s.memory.values
  pub labels : drop s.fixed.size t.memory.labels ≡ drop s.fixed.size s.memory.labels
  pub clock : s.control.clock ≤ t.control.clock

-- A step leaves it.
pub step_leaves : (s : State) → Ready s → Leaves s (step s)
step_leaves s r =
    record {
      fixed = step_fixed s;
      lengths = step_lengths s;
      words = (step_beyond s r).0;
      labels = (step_beyond s r).1;
      clock = (step_passes s r).rises;
    }

-- What two leave in turn they leave together.
leaves_on : {s t u : State} → Leaves s t → Leaves t u → Leaves s u
leaves_on {s} {t} {u} p q =
    record {
      fixed = q.fixed ∙ p.fixed;
      lengths = q.lengths ∙ p.lengths;
      words = (rw p.fixed at q.words) ∙ p.words;
      labels = (rw p.fixed at q.labels) ∙ p.labels;
      clock = le_trans p.clock q.clock;
    }

-- So many steps leave it.
pub steps_leave : (n : ℕ) (s : State) → Ready s → Leaves s (steps n s)
unfolding steps
steps_leave zero s r = record { fixed = refl; lengths = refl; words = refl; labels = refl; clock = le_refl _ }
steps_leave (suc n) s r = leaves_on (step_leaves s r) (steps_leave n (step s) (step_ready s r))

-- A run leaves it.
pub run_leaves : (s : State) → Ready s → Leaves s (run s)
unfolding run
run_leaves s r = steps_leave _ s r
