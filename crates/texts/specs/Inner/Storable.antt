-- Which lines may be written to memory. Laws and contracts use it; the paper's machine doesn't.
-- Assumes nothing.
use Rattle.std.specs.Prelude.{ℕ, Bool, true, false, ◌&&◌, List, [], ◌∷◌}
use Rattle.model.specs.declared.format.Line.{Line}
use Rattle.model.specs.declared.format.Line.TheVariants.{M, G, R, W, Malformed}
use Rattle.model.specs.Load.{entry_in_range}

-- The line isn't malformed, and the numbers of a W line are in their ranges.
abbrev pub is_storable : ℕ → Line → Bool
is_storable size (M a b c d e f) = true
is_storable size (G pc p t) = true
is_storable size (R k l v) = true
is_storable size (W k l v) = entry_in_range size k l v
is_storable size Malformed = false

-- So it is with all lines.
unfoldable pub storable : ℕ → List Line → Bool
storable size [] = true
storable size (l ∷ ls) = is_storable size l && storable size ls
