-- Tests in their order, each beside what is answered where it fails.
-- Assumes nothing.
use Rattle.std.specs.Prelude.{Bool, cond, List, [], ◌∷◌}
use Rattle.causes.specs.declared.Cause.{Cause}
use Rattle.causes.specs.Causes.{Outcome, Done, Refused}

-- Where the test fails, the refusal; else what follows.
abbrev pub unless : {A : Type 0} → Bool → A → A → A
unless test refusal rest = cond test rest refusal

infix 70 ◌or_else◌
-- A test, and the cause of the refusal where it fails.
pub data Test : Type 0 where
  ◌or_else◌ : Bool → Cause → Test

-- The outcome of tests in their order: the first that fails refuses.
unfoldable pub first_refusal : List Test → Outcome
first_refusal [] = Done
first_refusal (test or_else cause ∷ more) = unless test (Refused cause) (first_refusal more)
