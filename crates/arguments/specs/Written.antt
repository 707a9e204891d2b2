-- What a word says as a label.
-- Assumes nothing.
use Rattle.std.specs.Prelude.{ℕ, cond, Option, Some, None, List, ltb}
use Rattle.labels.specs.Label.{label_count}
use Rattle.model.specs.declared.format.Number.{Number}
use Rattle.reader.specs.Alone.{number_alone}

-- A number as a label: one that is below their count.
abbrev pub label_of : Option Number → Option ℕ
label_of (Some n) = cond (ltb n.value label_count) (Some n.value) None
label_of None = None

-- The label that a word writes as a text does.
abbrev pub label_alone : List ℕ → Option ℕ
label_alone word = label_of (number_alone word)
