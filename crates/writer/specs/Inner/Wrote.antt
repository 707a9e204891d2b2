-- A text written over the beginning of an output that has room for it.
-- Assumes nothing.
use Rattle.std.specs.Prelude.{ℕ, ◌≤◌, ◌≡◌, List, length}
use Rattle.writer.specs.Writing.{over}

-- The text was written over the beginning of `before`, where it fits: its length was given, and this is the output
-- afterwards.
pub record Wrote (text before : List ℕ) (given : ℕ) (after : List ℕ) : Type 0 where
  pub fits : length text ≤ length before
  pub count : given ≡ length text
  pub output : after ≡ over text before
