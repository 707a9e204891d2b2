-- The tests of a G line, those that R and W lines share, and those of an R line, as the model lists them.
-- Assumes nothing.
use Rattle.std.specs.Prelude.{ℕ, List, [], ◌∷◌, ◌++◌}
use Rattle.labels.specs.Label.{valid_pair}
use Rattle.causes.specs.declared.Cause.TheVariants.{OutOfRange, OutOfOrder, ZeroRegister, GatePair}
use Rattle.causes.specs.Tests.{Test, ◌or_else◌}
use Rattle.model.specs.declared.judging.Kind.{Kind}
use Rattle.model.specs.declared.judging.Kind.TheVariants.{GateLine, RegisterLine}
use Rattle.model.specs.declared.judging.Last.{Last}
use Rattle.model.specs.Numbers.{register_count}
use Rattle.model.specs.Ops.{writable}
use Rattle.model.specs.Load.{gate_in_range, entry_in_range, in_order, rising}

-- Of a G line.
abbrev pub gate_tests : ℕ → Last → ℕ → ℕ → ℕ → List Test
gate_tests count last pc p t =
    in_order last GateLine or_else OutOfOrder ∷ gate_in_range count pc p t or_else OutOfRange ∷ valid_pair p t or_else GatePair ∷ []

-- Of an R or W line.
abbrev pub entry_tests : Kind → ℕ → Last → ℕ → ℕ → ℕ → List Test
entry_tests kind bound last k l v =
    in_order last kind or_else OutOfOrder ∷ entry_in_range bound k l v or_else OutOfRange ∷ rising last kind k or_else OutOfOrder ∷ []

-- Of an R line: those, and that it isn't for register 0.
abbrev pub register_tests : Last → ℕ → ℕ → ℕ → List Test
register_tests last k l v = entry_tests RegisterLine register_count last k l v ++ (writable k or_else ZeroRegister ∷ [])
