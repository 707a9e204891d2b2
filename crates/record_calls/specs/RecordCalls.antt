-- What step, run and run to a tick answer and leave of a record in a buffer, for every buffer and every length, and what every
-- call that is lent a buffer tries first. A record stands in a buffer as the crates encoder and decoder have it. The numbers
-- are those of document 01's table, and two more: 0 where nothing was refused, 255 for a record's or a certificate's buffer
-- that is too short.
-- Assumes nothing.
use Rattle.std.specs.Prelude.{ℕ, Bool, cond, List, ltb, length}
use Rattle.causes.specs.declared.Cause.TheVariants.{IllFormed}
use Rattle.causes.specs.Causes.{Outcome, Done, Refused, number_of}
use Rattle.model.specs.Record.{Bank, Machine, lent}
use Rattle.model.specs.Answer.{Answer}
use Rattle.encoder.specs.Places.{span}
use Rattle.encoder.specs.Writing.{write}
use Rattle.decoder.specs.Held.{Holding, holds, nothing, machine_in}

-- ---- numbers

-- A buffer that is long enough holds no record. It is refused as a record that is not well-formed.
abbrev pub no_record : ℕ
no_record = number_of (Refused IllFormed)

-- A buffer is shorter than the record or the certificate that it is lent for. The table has no such number.
abbrev pub short_buffer : ℕ
short_buffer = 255

-- ---- what a call that is lent a record or a certificate tries before everything else

-- A buffer is shorter than so many words.
unfoldable pub is_short : ℕ → List ℕ → Bool
is_short least b = ltb (length b) least

-- Where the buffer is shorter than so many words the call is refused, whatever else it was given.
abbrev pub unless_short : {A : Type 0} → (ℕ → A) → ℕ → List ℕ → A → A
unless_short refused least b answer = cond (is_short least b) (refused short_buffer) answer

-- ---- calls that may change a record: load, step, run, run to a tick

-- The answer, the buffer at exit, and the lent memory at exit.
pub record Left : Type 0 where
  pub answer : ℕ
  pub buffer : List ℕ
  pub memory : Bank

-- These three.
abbrev pub left : ℕ → List ℕ → List ℕ → List ℕ → Left
left answer buffer words labels =
    record { answer = answer; buffer = buffer; memory = lent words labels }

-- All is left.
abbrev pub untouched : List ℕ → Bank → ℕ → Left
untouched b m answer = record { answer = answer; buffer = b; memory = m }

-- The buffer after a call with this outcome: it is written so, unless the call was refused.
abbrev pub kept : Outcome → List ℕ → List ℕ → List ℕ
kept Done written b = written
kept (Refused cause) written b = b

-- The same where a record is what is written.
abbrev pub kept_record : Outcome → Machine → List ℕ → List ℕ
kept_record outcome r b = kept outcome (write r b).buffer b

-- After the answer of step, run or run to a tick.
abbrev pub after_answer : Answer → List ℕ → Left
after_answer a b =
    record { answer = number_of a.outcome; buffer = kept_record a.outcome a.machine b; memory = a.memory }

-- One of these of what a buffer holds.
abbrev pub called : (Machine → Bank → Answer) → Holding → List ℕ → Bank → Left
called f nothing b m = untouched b m no_record
called f (holds r) b m = after_answer (f r m) b

-- One of these of a buffer.
unfoldable pub record_call : (Machine → Bank → Answer) → List ℕ → Bank → Left
record_call f b m = unless_short (untouched b m) span b (called f (machine_in b) b m)
