-- What print relies on where its tests of the record have passed.
-- Assumes nothing.
use Prim.Native.Nat.{◌≤◌}
use mathlib.Core.Path.{◌≡◌, sym, ◌∙◌}
use mathlib.Core.Bool.{Bool, true}
use Rattle.model.specs.Record.{Machine}
use Rattle.model.specs.WellFormed.{well_formed}
use Rattle.model.proofs.Ready.{fit}

-- A well-formed record has at most 2,048 words.
pub size_most : (r : Machine) (b : Bool) → b ≡ well_formed r → b ≡ true → r.fixed.size ≤ 2048
size_most r b e t = (fit r (sym e ∙ t)).fixed.size_high
