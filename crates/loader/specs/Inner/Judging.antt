-- The lines judged: which lines a record can take, and what the answer on all of them says.
-- Assumes nothing.
use Rattle.std.specs.Prelude.{ℕ, ◌≡◌, Bool, true, List, Result, OnOk}
use Rattle.model.specs.declared.format.Line.{Line}
use Rattle.model.specs.declared.format.Line.TheVariants.{M, G, R, W, Malformed}
use Rattle.model.specs.Numbers.{register_count}
use Rattle.model.specs.Record as records
use Rattle.model.specs.Record.{Bank, lent}
use Rattle.model.specs.Load.{gate_in_range, entry_in_range, behind_header, judge, fill, Loading, settle}
use Rattle.machine_record.specs.declared.Machine.{Machine}
use Rattle.header.specs.declared.Refusal.{Refusal}
use Rattle.header.specs.Loading.{loading_of, headed}

-- A record with so many gates can take the line.
abbrev pub takes : ℕ → Line → Bool
takes count (M a b c d e f) = true
takes count (G pc p t) = gate_in_range count pc p t
takes count (R k l v) = entry_in_range register_count k l v
takes count (W k l v) = true
takes count Malformed = true

-- The answer is that of the verdict on the lines behind the record's M line and, where all are accepted, their words are kept.
pub record LinesJudged (header : records.Machine) (ls : List Line) (before : Bank) (r : Result Machine (Refusal ℕ)) (after : Bank) : Type 0 where
  pub answer : (w l : List ℕ) → loading_of r w l ≡ headed (judge header behind_header 2 ls) (lent w l)
  pub kept : OnOk r (after ≡ fill ls before)

-- The answer on the lines behind the M line of this record: that of load, its first tests left out.
abbrev pub load_lines : records.Machine → List Line → Bank → Loading
load_lines r ls m = settle (judge r behind_header 2 ls) ls m
