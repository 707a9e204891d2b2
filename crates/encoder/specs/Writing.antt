-- What the function write answers, for every buffer.
-- Assumes nothing.
use Rattle.std.specs.Prelude.{ℕ, Bool, true, false, cond, List, leb, length}
use Rattle.model.specs.Record.{Machine}
use Rattle.encoder.specs.Places.{span}
use Rattle.encoder.specs.Layout.{holding}

-- Whether the record was written, and the buffer at exit.
pub record Written : Type 0 where
  pub done : Bool
  pub buffer : List ℕ

-- What write answers: the record at the buffer's start; nothing is written into a buffer shorter than the span.
unfoldable pub write : Machine → List ℕ → Written
write r b =
    cond (leb span (length b)) (record { done = true; buffer = holding r b }) (record { done = false; buffer = b })

-- The answer of the code in these terms.
abbrev pub written_of : Bool → List ℕ → Written
written_of r b = record { done = r; buffer = b }
