-- What is decided, as the functions promise it: for an op or a failed fetch, in the time of an upcall, by the limit.
-- Assumes nothing.
use Rattle.std.specs.Prelude.{ℕ, ◌+◌, ◌≤◌, ◌≡◌, true, List}
use Rattle.model.specs.declared.Fixed.{Fixed}
use Rattle.model.specs.declared.Registers.{Registers}
use Rattle.model.specs.Record.{State, is_upcall}
use Rattle.model.specs.Registers.{state_over}
use Rattle.model.specs.Step as model
use Rattle.parts.specs.declared.live.Live.{Live}
use Rattle.parts.specs.Live.{call_of, control_of}
use Rattle.parts.specs.declared.stages.Change.{Change}
use Rattle.parts.specs.declared.stages.Decision.{Decision}
use Rattle.parts.specs.declared.stages.Decision.TheVariants.{Spend, Stall, Close, Carry}
use Rattle.parts.specs.declared.stages.Reason.{Reason}
use Rattle.parts.specs.Stages.{change_of, decision_of, HasNext, Fits, Applies}

-- What it closes is an upcall, and what it carries out takes a tick or more, and in an upcall finishes by its end tick.
-- This holds whether there is a next pc or not, so that the limit can be looked at in every state.
abbrev pub Ready : Decision → Live → Type 0
Ready Spend l = Unit
Ready (Stall why) l = Unit
Ready (Close cause) l = is_upcall (call_of l.newest) ≡ true
Ready (Carry ticks change) l = (1 ≤ ticks) × (is_upcall (call_of l.newest) ≡ true → l.clock + ticks ≤ l.newest.end)

-- The change that it carries out fits, for which some ask for a next pc.
abbrev pub Suits : Decision → Live → Type 0
Suits Spend l = Unit
Suits (Stall why) l = Unit
Suits (Close cause) l = Unit
Suits (Carry ticks change) l = Fits change l (l.clock + ticks)

-- The decision for a reason to stop is this one of the model, in every such state. It can be applied, but for the limit.
pub record Decides (reason : Reason) (d : State → model.Decision) (fixed : Fixed) (live : Live) (registers : Registers) (r : Decision) : Type 0 where
  pub is : (words marks : List ℕ) → decision_of r ≡ d (state_over fixed (control_of live) registers words marks)
  pub ready : Ready r live
  pub suits : HasNext reason live.pc → Suits r live

-- A change in so many ticks, unless it finishes past the end tick of the upcall.
pub record InTime (live : Live) (ticks : ℕ) (change : Change) (r : Decision) : Type 0 where
  pub is :
      (fixed : Fixed) (registers : Registers) (words marks : List ℕ)
      → decision_of r ≡ model.in_time (state_over fixed (control_of live) registers words marks) (model.carry ticks (change_of change))
  pub ready : 1 ≤ ticks → Ready r live
  pub suits : Fits change live (live.clock + ticks) → Suits r live

-- A decision held against the limit.
pub record Limited (d : Decision) (live : Live) (limit : ℕ) (r : Decision) : Type 0 where
  pub is :
      Ready d live → (fixed : Fixed) (registers : Registers) (words marks : List ℕ) → fixed.limit ≡ limit
      → decision_of r ≡ model.in_limit (state_over fixed (control_of live) registers words marks) (decision_of d)
  pub applies : Ready d live → Suits d live → Applies r live limit
