-- Every well-formed record still gets the answer that it got while op 20 tested the pair of its gate: where the op passes
-- its check, a well-formed record's gate has a valid pair.
-- Assumes nothing.
use Prim.Native.Nat.{ℕ, zero, suc}
use mathlib.Core.Path.{◌≡◌, refl, sym, ap, ap₂, ◌∙◌}
use mathlib.Core.Logic.{⊎_elim}
use mathlib.Core.Bool.{Bool, true, false, ◌&&◌, cond}
use lib.Dec.{leb}
use borrow.Author.Tests.{ltb-true}
use Rattle.model.specs.declared.Request.{Request}
use Rattle.model.specs.declared.Request.TheVariants.{Step, Run, RunTo}
use Rattle.model.specs.Record.{State, state_of}
use Rattle.model.specs.WellFormed.{lent_whole}
use Rattle.model.specs.Word.{Op, immediate, arithmetic, load, store, branch, jump, read_clock, set_label, set_pair, upcall, end_upcall, gate_call, gate_return, halt}
use Rattle.model.specs.Ops.{Row, may_call_gate, Rb, table}
use Rattle.model.specs.Step.{Fetched, failed, fetched, Decision, rest, finish, attempt, in_time, plan, in_limit, fetch, running, decide, apply, step, steps, run, finishes_by, step_by, steps_by, run_to}
use Rattle.model.specs.Answer.{work, answer}
use Rattle.model.specs.PairTest.{pair_test, table_tested, plan_tested, decide_tested, step_tested, steps_tested, steps_by_tested, work_tested, PairTestSpared}
use Rattle.model.proofs.Truth.{choice, either, and_iff}
use Rattle.model.proofs.Ready.{fits, Ready, ready}
use Rattle.model.proofs.Step.{step_ready}
use Rattle.model.proofs.Run.{run_ready}
use Rattle.model.proofs.RunTo.{run_to_ready}

-- A test that passes wherever the check does takes nothing from it.
spared : (check test : Bool) → (check ≡ true → test ≡ true) → (check && test) ≡ check
spared true test h = h refl
spared false test h = refl

module _ (s : State) (r : Ready s) where
  -- Where op 20 passes its check, its gate is one of those that there are, and so its pair is valid.
  passes : (w : ℕ) (op : Op) → (table s w op).check ≡ true → pair_test s w op ≡ true
  unfolding table may_call_gate
  passes w immediate e = refl
  passes w (arithmetic f) e = refl
  passes w load e = refl
  passes w store e = refl
  passes w (branch f) e = refl
  passes w jump e = refl
  passes w read_clock e = refl
  passes w (set_label f) e = refl
  passes w set_pair e = refl
  passes w upcall e = refl
  passes w end_upcall e = refl
  passes w gate_call e = let h = simp and_iff at e in r.fit.fixed.pairs (Rb s w) (ltb-true _ _ h.0.0.0.1)
  passes w gate_return e = refl
  passes w halt e = refl

  -- So the row is the one with the test, and so are the plan, the decision and the step.
  same_row_lem : (w : ℕ) (op : Op) → table_tested s w op ≡ table s w op
  same_row_lem w op =
      let t = table s w op in
      ap (λ (b : Bool). record { check = b; effect = t.effect; ticks = t.ticks; strict = t.strict })
      (spared t.check (pair_test s w op) (passes w op))

  same_plan : (f : Fetched) → plan_tested s f ≡ plan s f
  same_plan (failed why) = refl
  same_plan (fetched w op) = ap (λ (x : Row). in_time s (attempt s x)) (same_row_lem w op)

  same_decision : decide_tested s ≡ decide s
  unfolding decide_tested decide
  same_decision = ap (λ (d : Decision). cond (running s) (in_limit s d) rest) (same_plan (fetch s))

  same_step : step_tested s ≡ step s
  unfolding step_tested step
  same_step = ap (apply s) same_decision

-- ---- many steps

same_steps : (n : ℕ) (s : State) → Ready s → steps_tested n s ≡ steps n s
unfolding steps_tested steps
same_steps zero s r = refl
same_steps (suc n) s r = ap (steps_tested n) (same_step s r) ∙ same_steps n (step s) (step_ready s r)

-- A step as far as it finishes by k leaves a ready state.
by_ready : (k : ℕ) (s : State) → Ready s → Ready (step_by k s)
unfolding step_by
by_ready k s r = choice Ready (finishes_by k s) _ _ (λ e. step_ready s r) (λ e. r)

same_by : (k : ℕ) (s : State) → Ready s → cond (leb (finish s (decide_tested s)) k) (step_tested s) s ≡ step_by k s
unfolding step_by finishes_by
same_by k s r =
    ap₂ (λ (d : Decision) (t : State). cond (leb (finish s d) k) t s) (same_decision s r) (same_step s r)

same_steps_by : (k n : ℕ) (s : State) → Ready s → steps_by_tested k n s ≡ steps_by k n s
unfolding steps_by_tested steps_by
same_steps_by k zero s r = refl
same_steps_by k (suc n) s r = ap (steps_by_tested k n) (same_by k s r) ∙ same_steps_by k n (step_by k s) (by_ready k s r)

-- ---- the calls

-- What a call asks for is what it was with the test, and leaves a ready state.
same_work : (q : Request) (s : State) → Ready s → work q s ≡ work_tested q s
unfolding run run_to
same_work Step s r = sym (same_step s r)
same_work Run s r = sym (same_steps _ s r)
same_work (RunTo k) s r = sym (same_steps_by k _ s r)

work_ready : (q : Request) (s : State) → Ready s → Ready (work q s)
work_ready Step s r = step_ready s r
work_ready Run s r = run_ready s r
work_ready (RunTo k) s r = run_to_ready k s r

-- The promise.
pub pair_test_spared : PairTestSpared
unfolding answer
pair_test_spared q r m t f =
    ⊎_elim
    (λ (l : lent_whole r.fixed.size m ≡ true).
    let h = ready (state_of r m) t f l in
    record {
      same = rw (f, l, same_work q (state_of r m) h);
      well_formed = rw (f, l) (fits _ (work_ready q (state_of r m) h).fit);
    })
    (λ (l : lent_whole r.fixed.size m ≡ false). record { same = rw (f, l); well_formed = rw (f, l) f })
    (either (lent_whole r.fixed.size m))
