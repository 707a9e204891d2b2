-- The registers as the code holds them.
-- Assumes nothing.
use Rattle.std.specs.Prelude.{ℕ, List}
use Rattle.model.specs.declared.Fixed.{Fixed}
use Rattle.model.specs.declared.Control.{Control}
use Rattle.model.specs.declared.Registers.{Registers}
use Rattle.model.specs.Record.{Bank, State, state_from}

-- The labelled numbers that they are.
abbrev pub as_bank : Registers → Bank
as_bank r = record { values = r.values; labels = r.labels }

-- The state of these parts, with registers as the code holds them.
abbrev pub state_over : Fixed → Control → Registers → List ℕ → List ℕ → State
state_over fixed control r words marks = state_from fixed control r.values r.labels words marks
