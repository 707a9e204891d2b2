-- What print answers, in the model's terms.
-- Assumes nothing.
use Rattle.std.specs.Prelude.{List, ℕ, Result, Ok, Err}
use Rattle.causes.specs.declared.Cause.{Cause}
use Rattle.causes.specs.Causes.{Done}
use Rattle.model.specs.Record.{Machine}
use Rattle.model.specs.Listing.{Printing, not_printed}
use Rattle.machine_record.specs.Struct.{record_of}
use Rattle.printer.specs.declared.Printed.{Printed}

-- What was written of a record, or why nothing: outcome, record, length, and the output at exit.
abbrev pub printing_with : Result ℕ Cause → Machine → List ℕ → Printing
printing_with (Ok count) r out = record { outcome = Done; machine = r; bytes = count; output = out }
printing_with (Err cause) r out = not_printed cause r out

-- The answer of print.
abbrev pub printing_of : Printed → List ℕ → Printing
printing_of p out = printing_with p.written (record_of p.machine) out
