-- The record of a machine's struct forgets nothing: equal ones come from equal structs.
-- Assumes nothing.
use mathlib.Core.Path.{◌≡◌, ap}
use Rattle.model.specs.Record as records
use Rattle.machine_record.specs.declared.Machine.{Machine}
use Rattle.machine_record.specs.Struct.{record_of}

-- The struct of a record.
abbrev pub struct_of : records.Machine → Machine
struct_of r = record { fixed = r.fixed; control = r.control; registers = record { values = r.registers.values; labels = r.registers.labels } }

-- Equal records come from equal structs.
pub faithful : (m n : Machine) → record_of m ≡ record_of n → m ≡ n
faithful m n e = ap struct_of e
