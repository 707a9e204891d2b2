-- The answer of print forgets nothing: equal answers come from equal structs.
-- Assumes nothing.
use Prim.Native.Nat.{ℕ}
use mathlib.Core.Path.{◌≡◌, refl, sym, ap, ◌∙◌}
use mathlib.Core.List.{List}
use Rattle.std.specs.Prelude.{Result, Ok, Err}
use Rattle.causes.specs.declared.Cause.{Cause}
use Rattle.causes.specs.Causes.{Outcome, Done, Refused}
use Rattle.model.specs.Record as records
use Rattle.model.specs.Listing.{Printing}
use Rattle.machine_record.proofs.Faithful.{struct_of}
use Rattle.printer.specs.declared.Printed.{Printed}
use Rattle.printer.specs.Printing.{printing_of, printing_with}

-- What an outcome says was written.
written_at : Outcome → ℕ → Result ℕ Cause
written_at Done count = Ok count
written_at (Refused c) count = Err c

-- The answer of a printing.
printed_at : Printing → Printed
printed_at x = record { written = written_at x.outcome x.bytes; machine = struct_of x.machine }

-- What was written is told by its printing.
written_printing : (w : Result ℕ Cause) (r : records.Machine) (out : List ℕ)
    → printed_at (printing_with w r out) ≡ record { written = w; machine = struct_of r }
unfolding printed_at written_at
written_printing (Ok n) r out = refl
written_printing (Err c) r out = refl

-- Equal answers come from equal structs.
pub same_answer : (r r' : Printed) (out out' : List ℕ) → printing_of r out ≡ printing_of r' out' → r ≡ r'
same_answer r r' out out' e = sym (written_printing r.written _ out) ∙ ap printed_at e ∙ written_printing r'.written _ out'
