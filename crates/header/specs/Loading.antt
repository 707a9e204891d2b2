-- The answer of a load as the model's, and what it is where only the first line of a text is judged.
-- Assumes nothing.
use Rattle.std.specs.Prelude.{ℕ, List, Result, Ok, Err}
use Rattle.causes.specs.Causes.{Done}
use Rattle.model.specs.Record as records
use Rattle.model.specs.Record.{Bank, lent}
use Rattle.model.specs.Load.{Verdict, refuse, accept, Loading, refusal}
use Rattle.machine_record.specs.declared.Machine.{Machine}
use Rattle.machine_record.specs.Struct.{record_of}
use Rattle.header.specs.declared.Refusal.{Refusal}

-- The answer of load: outcome, line, record, and the lent memory at exit. Beside a refusal stands a record of size 0.
abbrev pub loading_of : Result Machine (Refusal ℕ) → List ℕ → List ℕ → Loading
loading_of (Ok m) words labels = record { outcome = Done; line = 0; machine = record_of m; memory = lent words labels }
loading_of (Err r) words labels = refusal r.cause r.line (lent words labels)

-- The answer on the first line alone, by its verdict. Memory is left either way.
abbrev pub headed : Verdict records.Machine → Bank → Loading
headed (refuse cause line) m = refusal cause line m
headed (accept r) m = record { outcome = Done; line = 0; machine = r; memory = m }
