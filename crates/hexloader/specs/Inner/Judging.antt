-- The records judged: what a refusal is, the verdict that an answer gives, and the answer of the load on all records.
-- Assumes nothing.
use Rattle.std.specs.Prelude.{ℕ, Result, Ok, Err, List}
use Rattle.causes.specs.declared.Cause.TheVariants.{MalformedRecord}
use Rattle.model.specs.Record.{Bank, Machine}
use Rattle.model.specs.Hex.{records}
use Rattle.model.specs.Load.{Verdict, refuse, accept, Loading}
use Rattle.model.specs.HexLoad.{judge_records, settle_records}
use Rattle.header.specs.declared.Refusal.{Refusal}

-- A record is refused on line n: 11.
abbrev pub malformed : ℕ → Refusal ℕ
malformed n = record { cause = MalformedRecord; line = n }

-- The verdict that an answer gives, with the places as they are then.
abbrev pub verdict_of : {A : Type 0} → Result A (Refusal ℕ) → List ℕ → Verdict (List ℕ)
verdict_of (Ok a) after = accept after
verdict_of (Err e) after = refuse e.cause e.line

-- The answer on the records of a text, for the machine of an M text: that of the load, its first tests left out.
abbrev pub load_records : Machine → List ℕ → ℕ → List ℕ → Bank → Loading
load_records r hex label places m = settle_records r label (judge_records 1 (records hex) places) m
