-- What `fire` and `fire_alone` give back and leave, as a firing and a reply of the model.
-- Assumes nothing.
use Rattle.std.specs.Prelude.{ℕ, List}
use Rattle.model.specs.Record.{lent}
use Rattle.model.specs.Program.{Firing, Replied}

-- The bytes written, the output at exit, and the lent words and labels at exit.
abbrev pub fired : ℕ → List ℕ → List ℕ → List ℕ → Firing
fired bytes output words labels =
    record { bytes = bytes; output = output; memory = lent words labels }

-- The bytes written, and the output at exit.
abbrev pub replied : ℕ → List ℕ → Replied
replied bytes output = record { bytes = bytes; output = output }
