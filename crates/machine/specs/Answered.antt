-- What the public calls answer, in the model's terms: an answer with the lent memory at exit.
-- Assumes nothing.
use Rattle.std.specs.Prelude.{ℕ, List}
use Rattle.causes.specs.Causes.{outcome_of}
use Rattle.model.specs.Record.{lent}
use Rattle.model.specs.Answer as model
use Rattle.machine_record.specs.Struct.{record_of}
use Rattle.machine.specs.declared.Answer.{Answer}

-- An answer with the lent memory at exit.
abbrev pub answered : Answer → List ℕ → List ℕ → model.Answer
answered r words labels = record { outcome = outcome_of r.outcome; machine = record_of r.machine; memory = lent words labels }
