-- Laws about the register fields of a word: each is the number of a register.
-- Assumes nothing.
use Rattle.std.proofs.Common.{ℕ, ◌<◌, arith}
use Rattle.model.specs.Numbers.{register_count}
use Rattle.model.specs.Word.{a_field, b_field, c_field, n_field}

-- The register number a.
pub a_below : (w : ℕ) → a_field w < register_count
unfolding a_field
a_below w = omega arith

-- The register number b.
pub b_below : (w : ℕ) → b_field w < register_count
unfolding b_field
b_below w = omega arith

-- The register number c.
pub c_below : (w : ℕ) → c_field w < register_count
unfolding c_field n_field
c_below w = omega arith
