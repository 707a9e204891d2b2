-- The record of the machine's struct, in the model's terms.
-- Assumes nothing.
use Rattle.model.specs.Record as records
use Rattle.machine_record.specs.declared.Machine.{Machine}

-- The record that a machine's struct is. It forgets nothing: proofs/Faithful.antt.
abbrev pub record_of : Machine → records.Machine
record_of m =
    record { fixed = m.fixed; control = m.control; registers = record { values = m.registers.values; labels = m.registers.labels } }
