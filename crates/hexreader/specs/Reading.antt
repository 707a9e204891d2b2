-- What the reader of records answers, as a record of the model.
-- Assumes nothing.
use Rattle.std.specs.Prelude.{ℕ, ◌+◌, Option, Some, None, cond, ltb, List, take, drop, get_or}
use Rattle.model.specs.Numbers.{record_head}
use Rattle.model.specs.Hex as hex
use Rattle.model.specs.Hex.{byte_of, bytes, HexRecord, HexRead}
use Rattle.hexreader.specs.declared.Found.{Found}
use Rattle.hexreader.specs.declared.Found.TheVariants.{Data, End}
use Rattle.hexreader.specs.declared.Read.{Read}

-- A number of the model that is below a limit; the limit itself stands where there is none.
abbrev pub below : ℕ → ℕ → Option ℕ
below limit n = cond (ltb n limit) (Some n) None

-- The byte that the two digits at a place of a text write.
abbrev pub written_at : List ℕ → ℕ → ℕ
written_at text at = byte_of (get_or text at 0) (get_or text (at + 1) 0)

-- What was found of the record that a text begins with: the bytes that it gives are those behind its head. A record of
-- which nothing is found is bad.
abbrev pub record_in : List ℕ → Option Found → HexRecord
record_in text (Some (Data address count)) = hex.Data address (take count (drop record_head (bytes (drop 1 text))))
record_in text (Some End) = hex.End
record_in text None = hex.Bad

-- The same with the bytes of the text that it takes.
abbrev pub read_in : List ℕ → Read → HexRead
read_in text r = record { found = record_in text r.found; next = r.next }
