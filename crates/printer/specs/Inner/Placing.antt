-- How a listing is measured and written, as the functions of print promise it.
-- Assumes nothing.
use Rattle.std.specs.Prelude.{ℕ, ◌+◌, ◌≤◌, ◌≡◌, List, ◌++◌, length, take}
use Rattle.model.specs.Numbers.{most_words}
use Rattle.model.specs.Record.{State, state_of, lent}
use Rattle.writer.specs.Inner.Wrote.{Wrote}
use Rattle.machine_record.specs.declared.Machine as struct
use Rattle.machine_record.specs.Struct.{record_of}

-- The state of a machine with lent words and their labels, the marks.
abbrev pub state_with : struct.Machine → List ℕ → List ℕ → State
state_with m words marks = state_of (record_of m) (lent words marks)

-- There are so many entries, and no more than a machine has words.
pub record Entries (values labels : List ℕ) (count : ℕ) : Type 0 where
  pub enough : count ≤ length values
  pub labelled : count ≤ length labels
  pub most : count ≤ most_words

-- ---- what the writing functions promise

-- No listing is so long: where a line begins at the most.
abbrev pub longest : ℕ
longest = 1048576

-- No R or W line is longer.
abbrev pub longest_entry : ℕ
longest_entry = 65

-- The text is put into an output behind its first `at` bytes, where it fits. Where it ends is given whether it fits or not.
pub record Placed (text before : List ℕ) (at given : ℕ) (after : List ℕ) : Type 0 where
  pub place : given ≡ at + length text
  pub output : given ≤ length before → Wrote (take at before ++ text) before given after
