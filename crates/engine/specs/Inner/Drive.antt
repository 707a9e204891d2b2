-- The steps of a machine that fits, as the functions that do them promise them.
-- Assumes nothing.
use Rattle.std.specs.Prelude.{ℕ, ◌+◌, ◌≤◌, ◌<◌, ◌≡◌, ◌⊎◌, List, get_or}
use Rattle.model.specs.Record.{is_upcall}
use Rattle.parts.specs.declared.live.Live.{Live}
use Rattle.parts.specs.declared.stages.Decision.{Decision}
use Rattle.parts.specs.declared.stages.Decision.TheVariants.{Spend, Stall, Close, Carry}
use Rattle.parts.specs.Live.{call_of}
use Rattle.turns.specs.declared.Context.{Context}
use Rattle.turns.specs.Ticks.{Timing}

-- What the hot loop is told.
abbrev pub context_of : ℕ → Live → ℕ → Context
context_of size l deadline =
    record { size = size; pair = l.pair; up = is_upcall (call_of l.newest); deadline = deadline }

-- The given deadline; or where the op at the pc, below this size, is a common one the tick at which it finishes, if that is
-- nearer.
pub record Alone (deadline size : ℕ) (l : Live) (values turned words : List ℕ) (r : ℕ) : Type 0 where
  pub near : r ≤ deadline
  pub later : l.clock ≤ r
  pub ticks : ℕ
  pub timing : l.pc < size → Timing (get_or words l.pc 0) l.pair.timing values turned ticks
  pub which : (r ≡ deadline) ⊎ (r ≡ l.clock + ticks)
  pub most : l.pc < size → r ≤ l.clock + ticks
  pub outside : size ≤ l.pc → r ≡ deadline

-- The clock that a decision leaves under this limit.
abbrev pub finish_of : Decision → Live → ℕ → ℕ
finish_of Spend l limit = limit
finish_of (Stall why) l limit = l.clock
finish_of (Close cause) l limit = l.newest.end + 1
finish_of (Carry ticks change) l limit = l.clock + ticks
