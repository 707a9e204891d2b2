-- A number that a word is, with nothing behind it: the programs' arguments are written so.
-- Assumes nothing.
use Rattle.std.specs.Prelude.{ℕ, cond, Option, Some, None, option_and_then, List, leb, length}
use Rattle.model.specs.declared.format.Number.{Number}
use Rattle.model.specs.Text.{number}

-- What was read of a word of so many bytes is all of it. A number's bytes count the comma before a field, which no word
-- has.
abbrev pub alone : ℕ → Number → Option Number
alone size n = cond (leb n.length size) None (Some n)

-- The number that a word is.
abbrev pub number_alone : List ℕ → Option Number
number_alone word = option_and_then (alone (length word)) (number word)
