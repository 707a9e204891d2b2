-- What is asked of a file's name.
-- Assumes nothing.
use Rattle.std.specs.Prelude.{ℕ, zero, suc, Bool, true, false, cond, List, eqb, get_or}

-- One of the first n bytes of a name is a line feed.
unfoldable pub line_feed_in : List ℕ → ℕ → Bool
line_feed_in name zero = false
line_feed_in name (suc n) = cond (eqb (get_or name n 0) 10) true (line_feed_in name n)
