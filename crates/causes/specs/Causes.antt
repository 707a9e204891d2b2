-- The numbers of the refusals: document 01, "Text", its table, and the rows that requests added.
-- Assumes nothing.
use Rattle.std.specs.Prelude.{ℕ, Bool, true, false, Result, Ok, Err}
use Rattle.causes.specs.declared.Cause.{Cause}
use Rattle.causes.specs.declared.Cause.TheVariants.{TextLength, MalformedLine, OutOfRange, OutOfOrder, InvalidPair, ShortMemory, IllFormed, ShortOutput, ZeroRegister, TickAboveLimit, MalformedRecord, MisplacedByte, GatePair}

-- The number of a cause, row by row of the table.
abbrev pub cause_number : Cause → ℕ
cause_number TextLength = 1
cause_number MalformedLine = 2
cause_number OutOfRange = 3
cause_number OutOfOrder = 4
cause_number InvalidPair = 5
cause_number ShortMemory = 6
cause_number IllFormed = 7
cause_number ShortOutput = 8
cause_number ZeroRegister = 9
cause_number TickAboveLimit = 10
cause_number MalformedRecord = 11
cause_number MisplacedByte = 12
cause_number GatePair = 13

-- How a call of load, step, run, print or view ended: it was carried out, or refused.
pub data Outcome : Type 0 where
  Done : Outcome
  Refused : Cause → Outcome

-- The outcome that a call answers.
abbrev pub outcome_of : Result Unit Cause → Outcome
outcome_of (Ok u) = Done
outcome_of (Err cause) = Refused cause

-- The number of an outcome: that of the cause, or 0. No two outcomes have one number: proofs/Numbers.antt.
abbrev pub number_of : Outcome → ℕ
number_of Done = 0
number_of (Refused cause) = cause_number cause

-- Nothing was refused.
abbrev pub is_done : Outcome → Bool
is_done Done = true
is_done (Refused cause) = false
