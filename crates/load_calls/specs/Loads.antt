-- What a load answers and leaves of a record's buffer, and a number and a count in one answer.
-- Assumes nothing.
use Rattle.std.specs.Prelude.{ℕ, ◌+◌, ◌*◌, Result, Ok, Err, List}
use Rattle.causes.specs.Causes.{Done, number_of}
use Rattle.model.specs.Record.{lent}
use Rattle.model.specs.Load.{Loading, refusal}
use Rattle.machine_record.specs.declared.Machine.{Machine}
use Rattle.machine_record.specs.Struct.{record_of}
use Rattle.header.specs.declared.Refusal.{Refusal}
use Rattle.record_calls.specs.RecordCalls.{Left, kept_record, after_answer}

-- An answer's number is below this one; a line or a length stands above it, as so many times this one.
abbrev pub numbers : ℕ
numbers = 256

-- A number and a count in one answer.
abbrev pub counted : ℕ → ℕ → ℕ
counted number count = number + numbers * count

-- The answer of load, with a line that is told beside it where it was carried out: 0 is a load's own.
abbrev pub loading_told : ℕ → Result Machine (Refusal ℕ) → List ℕ → List ℕ → Loading
loading_told line (Ok m) words labels =
    record { outcome = Done; line = line; machine = record_of m; memory = lent words labels }
loading_told line (Err r) words labels = refusal r.cause r.line (lent words labels)

-- After the answer of load: its number and line.
abbrev pub after_loading : Loading → List ℕ → Left
after_loading a b =
    record {
      answer = counted (number_of a.outcome) a.line;
      buffer = kept_record a.outcome a.machine b;
      memory = a.memory;
    }

-- ---- load from HEX, whose line stands in a lent word: its HEX text may have more lines than fit an answer

-- What is left, and the lent line at exit.
pub record LeftLine : Type 0 where
  pub left : Left
  pub line : ℕ

-- After the answer of load: its number alone, and its line.
abbrev pub after_loading_hex : Loading → List ℕ → LeftLine
after_loading_hex a b =
    record {
      left = after_answer (record { outcome = a.outcome; machine = a.machine; memory = a.memory }) b;
      line = a.line;
    }
