-- The step as it was while op 20 tested the pair of its gate, and the promise that every well-formed record still gets the
-- answer that it got with the test. The machine uses none of it. That the two steps differ elsewhere is among the facts.
-- Assumes nothing.
use Rattle.std.specs.Prelude.{ℕ, zero, suc, ◌+◌, ◌-◌, ◌≡◌, Bool, true, ◌&&◌, cond, leb}
use Rattle.model.specs.declared.Request.{Request}
use Rattle.model.specs.declared.Request.TheVariants.{Step, Run, RunTo}
use Rattle.model.specs.Record.{Bank, Machine, State, state_of}
use Rattle.model.specs.WellFormed.{is_valid, well_formed}
use Rattle.model.specs.Word.{Op, immediate, arithmetic, load, store, branch, jump, read_clock, set_label, set_pair, upcall, end_upcall, gate_call, gate_return, halt}
use Rattle.model.specs.Ops.{Row, gate, table}
use Rattle.model.specs.Step.{Fetched, failed, fetched, Decision, rest, finish, fault, attempt, in_time, in_limit, fetch, running, apply}
use Rattle.model.specs.Answer.{Answer, answer, answer_of}
use Rattle.model.specs.Inner.Typed.{Typed}

-- ---- the step with the test

-- What op 20 tested besides its check: its gate's pair is valid. No other op did.
abbrev pub pair_test : State → ℕ → Op → Bool
pair_test s w immediate = true
pair_test s w (arithmetic f) = true
pair_test s w load = true
pair_test s w store = true
pair_test s w (branch f) = true
pair_test s w jump = true
pair_test s w read_clock = true
pair_test s w (set_label f) = true
pair_test s w set_pair = true
pair_test s w upcall = true
pair_test s w end_upcall = true
pair_test s w gate_call = is_valid (gate s w).pair
pair_test s w gate_return = true
pair_test s w halt = true

-- A row of the table with the test beside its check.
abbrev pub table_tested : State → ℕ → Op → Row
table_tested s w op =
    let r = table s w op in
    record { check = r.check && pair_test s w op; effect = r.effect; ticks = r.ticks; strict = r.strict }

-- What a running record would have done, were it not for the limit.
abbrev pub plan_tested : State → Fetched → Decision
plan_tested s (failed why) = fault s why
plan_tested s (fetched w op) = in_time s (attempt s (table_tested s w op))

-- What a step did.
unfoldable pub decide_tested : State → Decision
decide_tested s = cond (running s) (in_limit s (plan_tested s (fetch s))) rest

-- One step.
unfoldable pub step_tested : State → State
step_tested s = apply s (decide_tested s)

-- So many steps.
unfoldable pub steps_tested : ℕ → State → State
steps_tested zero s = s
steps_tested (suc k) s = steps_tested k (step_tested s)

-- So many steps, as far as they finish by tick k.
unfoldable pub steps_by_tested : ℕ → ℕ → State → State
steps_by_tested k zero s = s
steps_by_tested k (suc n) s = steps_by_tested k n (cond (leb (finish s (decide_tested s)) k) (step_tested s) s)

-- As many as a run can take.
abbrev pub run_length : State → ℕ
run_length s = s.fixed.limit - s.control.clock + 1

-- What a call asks for: one step, the run, or the run to a tick.
abbrev pub work_tested : Request → State → State
work_tested Step s = step_tested s
work_tested Run s = steps_tested (run_length s) s
work_tested (RunTo k) s = steps_by_tested k (run_length s) s

-- The answer of a call: 7 where the record is not fit, then 6 where lent memory is short. Which records are fit is as it
-- is now: each of them was fit then too.
abbrev pub answer_tested : Request → Machine → Bank → Answer
answer_tested q = answer (work_tested q)

-- ---- the promise

-- A call on this record and lent memory gets the answer that it got with the test, and with it a well-formed record.
pub record AnsweredAlike (q : Request) (r : Machine) (m : Bank) : Type 0 where
  pub same : answer_of q r m ≡ answer_tested q r m
  pub well_formed : well_formed (answer_of q r m).machine ≡ true

-- Every call on every well-formed record, with whatever memory is lent, does: step, run and run to a tick, refusal 6
-- included. Of their numbers no more is asked than the types of the code say.
abbrev pub PairTestSpared : Type 0
PairTestSpared = (q : Request) (r : Machine) (m : Bank) → Typed (state_of r m) → well_formed r ≡ true → AnsweredAlike q r m
