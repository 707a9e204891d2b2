-- What `view` gives back and leaves, in the model's terms.
-- Assumes nothing.
use Rattle.std.specs.Prelude.{ℕ, List, Result, Ok, Err}
use Rattle.causes.specs.Causes.{Done, Refused}
use Rattle.model.specs.Record.{lent}
use Rattle.model.specs.View.{View}
use Rattle.view.specs.declared.Refused as struct

-- The answer, with the output and the lent words and labels at exit.
abbrev pub viewed_of : Result ℕ struct.Refused → List ℕ → List ℕ → List ℕ → View
viewed_of (Ok count) out words labels =
    record { outcome = Done; value = 0; bytes = count; output = out; memory = lent words labels }
viewed_of (Err r) out words labels =
    record { outcome = Refused r.cause; value = r.value; bytes = 0; output = out; memory = lent words labels }
