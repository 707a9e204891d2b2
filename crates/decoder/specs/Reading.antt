-- What the function read answers, for every buffer.
-- Assumes nothing.
use Rattle.std.specs.Prelude.{ℕ, Bool, true, false, List, Option, Some, None}
use Rattle.model.specs.Record.{Machine}
use Rattle.model.specs.Load.{no_machine}
use Rattle.machine_record.specs.Struct.{record_of}
use Rattle.machine_record.specs.declared.Machine as struct
use Rattle.decoder.specs.Held.{Holding, holds, nothing, machine_in}

-- Whether a record was found, and the record, or what stands in its place.
pub record Read : Type 0 where
  pub found : Bool
  pub machine : Machine

-- Where there is none, the record of size 0 stands beside the answer.
abbrev pub given : Holding → Read
given (holds r) = record { found = true; machine = r }
given nothing = record { found = false; machine = no_machine }

-- What read answers.
unfoldable pub read : List ℕ → Read
read b = given (machine_in b)

-- The answer of the code in these terms.
abbrev pub read_of : Option struct.Machine → Read
read_of (Some m) = record { found = true; machine = record_of m }
read_of None = given nothing
