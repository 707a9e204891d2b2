-- The bytes of a record, counted and summed.
-- Assumes nothing.
use Rattle.std.specs.Prelude.{ℕ, ◌%◌, ◌≡◌, Option, Some, None, cond, List, length}
use Rattle.model.specs.Numbers.{no_byte}
use Rattle.model.specs.Hex.{sum, is_whole}
use Rattle.hexreader.specs.declared.Total.{Total}

-- Their number, and their sum modulo 256.
pub record IsTotal (bs : List ℕ) (r : Total) : Type 0 where
  pub counted : r.count ≡ length bs
  pub summed : r.sum ≡ sum bs % no_byte

-- Their number, where they are a whole record.
abbrev pub count_whole : List ℕ → Option ℕ
count_whole bs = cond (is_whole bs) (Some (length bs)) None
