-- What the reader of fields answers.
-- Assumes nothing.
use Rattle.std.specs.Prelude.{ℕ, List, Option, option_map}
use Rattle.model.specs.Text.{Fields}

-- The fields, by the bytes that they take and the numbers that were put to their places.
abbrev pub fields_of : Option ℕ → List ℕ → Option Fields
fields_of bytes ns = option_map (λ n. record { numbers = ns; bytes = n }) bytes
