-- A negated test, as the code has it before a refusal.
-- Assumes nothing.
use mathlib.Core.Path.{◌≡◌, sym, ◌∙◌}
use mathlib.Core.Bool.{Bool, true, false}

-- It passed: the test fails.
pub fails : (t b : Bool) → t ≡ b → t ≡ false → b ≡ false
fails t b e n = sym e ∙ n

-- It failed: the test passes.
pub passes : (t b : Bool) → t ≡ b → t ≡ true → b ≡ true
passes t b e n = sym e ∙ n
