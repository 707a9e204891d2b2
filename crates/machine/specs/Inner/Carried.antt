-- One step, a run or a run to a tick carried out, as its function promises it.
-- Assumes nothing.
use Rattle.std.specs.Prelude.{ℕ, ◌≡◌, List}
use Rattle.model.specs.declared.Request.{Request}
use Rattle.model.specs.declared.Request.TheVariants.{Step, Run, RunTo}
use Rattle.model.specs.Record.{machine_of, state_of, lent}
use Rattle.model.specs.Answer.{work}
use Rattle.pacing.specs.declared.Pace.{Pace}
use Rattle.pacing.specs.declared.Pace.TheVariants.{Once, Onward}
use Rattle.machine_record.specs.declared.Machine.{Machine}
use Rattle.machine_record.specs.Struct.{record_of}

-- How far its steps go: no step of a run finishes past the limit.
abbrev pub pace_of : Request → ℕ → Pace
pace_of Step limit = Once
pace_of Run limit = Onward limit
pace_of (RunTo k) limit = Onward k

-- What was asked for of this machine, carried out.
pub record Carried (request : Request) (m : Machine) (words marks : List ℕ) (r : Machine) (words' marks' : List ℕ) : Type 0 where
  pub machine : record_of r ≡ machine_of (work request (state_of (record_of m) (lent words marks)))
  pub memory : lent words' marks' ≡ (work request (state_of (record_of m) (lent words marks))).memory
