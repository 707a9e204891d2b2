-- The places for the bytes of memory, as the model has them.
-- Assumes nothing.
use Rattle.std.specs.Prelude.{ℕ, ◌%◌, Option, Some, None, List, map}
use Rattle.model.specs.Numbers.{no_byte}

-- A place: the byte that is given to it, or the model's number where there is none. A byte is its own remainder.
abbrev pub number_of : Option ℕ → ℕ
number_of (Some b) = b % no_byte
number_of None = no_byte

-- All of them.
abbrev pub numbers_of : List (Option ℕ) → List ℕ
numbers_of = map number_of
