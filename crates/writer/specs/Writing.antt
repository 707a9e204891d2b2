-- What the line writer answers.
-- Assumes nothing.
use Rattle.std.specs.Prelude.{ℕ, cond, List, ◌++◌, leb, length, drop}
use Rattle.model.specs.Numbers.{most_fields}
use Rattle.model.specs.Listing.{line}

-- A text written over the beginning of an output: what stands behind it stays.
unfoldable pub over : List ℕ → List ℕ → List ℕ
over text out = text ++ drop (length text) out

-- The answer of the line writer: how many bytes the line takes, and the output at exit.
pub record Writing : Type 0 where
  pub count : ℕ
  pub output : List ℕ

-- An answer put together.
abbrev pub answer : ℕ → List ℕ → Writing
answer n out = record { count = n; output = out }

-- A text is written where it fits, else nothing is: its length is given in either case.
unfoldable pub written : List ℕ → List ℕ → Writing
written text out = answer (length text) (cond (leb (length text) (length out)) (over text out) out)

-- A line of up to six fields is written so. More fields are no line: no byte.
unfoldable pub writing : ℕ → List ℕ → List ℕ → Writing
writing letter ns out = cond (leb (length ns) most_fields) (written (line letter ns) out) (answer 0 out)
