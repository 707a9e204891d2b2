-- Where a line ends, and a record: none, where 0 stands in the model.
-- Assumes nothing.
use Rattle.std.specs.Prelude.{ℕ, zero, suc, ◌+◌, ◌*◌, ◌&&◌, Option, Some, None, cond, List, eqb, length, drop, get_or}
use Rattle.model.specs.Numbers.{colon}
use Rattle.model.specs.Hex.{bytes, is_whole, line_end}

-- A number above 0.
abbrev pub above_none : ℕ → Option ℕ
above_none zero = None
above_none (suc n) = Some (suc n)

-- The end of a line behind n bytes, where so many bytes end it.
abbrev pub end_behind : ℕ → ℕ → Option ℕ
end_behind n zero = None
end_behind n (suc k) = Some (n + suc k)

-- The end of the record that a text begins with, where it begins with a colon, its bytes are whole and its line ends.
abbrev pub record_end : List ℕ → Option ℕ
record_end xs =
    let bs = bytes (drop 1 xs) in
    let n = 1 + 2 * length bs in
    cond (eqb (get_or xs 0 0) colon && is_whole bs) (end_behind n (line_end (drop n xs))) None
