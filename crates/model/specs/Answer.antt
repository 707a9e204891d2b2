-- What the public calls step and run answer, for every record and every length of lent memory: document 01, "Text", the
-- rows 6 and 7 of its table.
-- Assumes nothing.
use Rattle.std.specs.Prelude.{ℕ}
use Rattle.causes.specs.declared.Cause.{Cause}
use Rattle.causes.specs.declared.Cause.TheVariants.{ShortMemory, IllFormed}
use Rattle.causes.specs.Causes.{Outcome, Done, Refused}
use Rattle.causes.specs.Tests.{unless}
use Rattle.model.specs.declared.Request.{Request}
use Rattle.model.specs.declared.Request.TheVariants.{Step, Run, RunTo}
use Rattle.model.specs.Record.{Bank, Machine, State, machine_of, state_of}
use Rattle.model.specs.WellFormed.{well_formed, lent_whole}
use Rattle.model.specs.Step.{step, run, run_to}

-- The answer of a call: its outcome; the record; and the lent memory at exit.
pub record Answer : Type 0 where
  pub outcome : Outcome
  pub machine : Machine
  pub memory : Bank

-- A refusal gives the record back and leaves words and labels.
abbrev pub refused : Cause → Machine → Bank → Answer
refused cause r m = record { outcome = Refused cause; machine = r; memory = m }

-- The answer of a call that was carried out.
abbrev pub done : State → Answer
done s = record { outcome = Done; machine = machine_of s; memory = s.memory }

-- A call that does f: 7 where the record is not fit, then 6 where lent words or labels are shorter than the size.
unfoldable pub answer : (State → State) → Machine → Bank → Answer
answer f r m =
    unless (well_formed r) (refused IllFormed r m)
    (unless (lent_whole r.fixed.size m) (refused ShortMemory r m) (done (f (state_of r m))))

-- What a call asks for: one step, the run, or the run to a tick.
abbrev pub work : Request → State → State
work Step = step
work Run = run
work (RunTo k) = run_to k

-- The answer of a call.
abbrev pub answer_of : Request → Machine → Bank → Answer
answer_of q = answer (work q)

-- The answer of step.
abbrev pub step_answer : Machine → Bank → Answer
step_answer = answer_of Step

-- The answer of run.
abbrev pub run_answer : Machine → Bank → Answer
run_answer = answer_of Run

-- The answer of a run to tick k.
abbrev pub run_to_answer : ℕ → Machine → Bank → Answer
run_to_answer k = answer_of (RunTo k)
