-- What a decision applied means: by equation with the second stage of the model's step.
-- Assumes nothing.
use Rattle.std.specs.Prelude.{◌≡◌, ℕ, ◌<◌, ◌≤◌, true, List}
use Rattle.model.specs.declared.Fixed.{Fixed}
use Rattle.model.specs.Record.{state_from, is_upcall}
use Rattle.model.specs.Step as model
use Rattle.parts.specs.declared.live.Live.{Live}
use Rattle.parts.specs.declared.stages.Change.{Change}
use Rattle.parts.specs.declared.stages.Decision.{Decision}
use Rattle.parts.specs.Live.{call_of, control_of, Stacked}
use Rattle.parts.specs.Stages.{change_of, decision_of, Applies}

-- The newest call, if it is an upcall, ends at the clock or later.
abbrev pub Timely : Live → Type 0
Timely l = is_upcall (call_of l.newest) ≡ true → l.clock ≤ l.newest.end

-- The control after a change that leaves this clock.
pub record Changed (live : Live) (clock : ℕ) (change : Change) (r : Live) : Type 0 where
  pub is : control_of r ≡ model.changed (control_of live) clock (change_of change)
  pub stacked : Stacked r
  pub timely : (is_upcall (call_of live.newest) ≡ true → clock ≤ live.newest.end) → Timely r
  pub then : r.clock ≡ clock

-- The control after a decision that can be applied under this limit. Where the record runs on, its clock has grown.
pub record After (live : Live) (limit : ℕ) (d : Decision) (r : Live) : Type 0 where
  pub is :
      Stacked live → Applies d live limit → (fixed : Fixed) (values labels words marks : List ℕ) → fixed.limit ≡ limit
      → control_of r ≡ model.control_after (state_from fixed (control_of live) values labels words marks) (decision_of d)
  pub stacked : Stacked live → Applies d live limit → Stacked r
  pub timely : Stacked live → Timely live → Applies d live limit → r.end ≡ 0 → Timely r
  pub limited : Stacked live → Applies d live limit → live.clock ≤ limit → r.clock ≤ limit
  pub grown : Stacked live → Timely live → Applies d live limit → live.end ≡ 0 → r.end ≡ 0 → live.clock < r.clock

-- What a decision writes to the registers.
pub record Wrote (d : Decision) (live : Live) (values labels values' labels' : List ℕ) : Type 0 where
  pub is :
      (limit : ℕ) → Applies d live limit → (fixed : Fixed) (words marks : List ℕ)
      → let s = state_from fixed (control_of live) values labels words marks in
      model.written s (model.write_of s (decision_of d)) ≡ state_from fixed (control_of live) values' labels' words marks
