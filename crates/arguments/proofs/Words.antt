-- Words that say nothing.
-- Assumes nothing.
use Rattle.std.specs.Prelude.{◌≡◌, ℕ, Option, None, List, []}
use Rattle.model.specs.declared.format.Number.{Number}
use Rattle.model.specs.Text.{digits, well_written, number}
use Rattle.reader.specs.Alone.{number_alone}

-- An argument that isn't there, or is too long, is no number, as an empty word is none.
pub no_number : (r : Option Number) → r ≡ None → (word : List ℕ) × (r ≡ number_alone word)
unfolding number well_written digits
no_number r none = ([], none)
