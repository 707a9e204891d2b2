-- What the outcome of tests says of each of them.
-- Assumes nothing.
use mathlib.Core.Path.{◌≡◌, refl}
use mathlib.Core.Bool.{true, false}
use mathlib.Core.List.{List, [], ◌∷◌, ◌++◌}
use Rattle.causes.specs.declared.Cause.{Cause}
use Rattle.causes.specs.Causes.{Done, Refused}
use Rattle.causes.specs.Tests.{Test, ◌or_else◌, first_refusal}
use Rattle.causes.proofs.Numbers.{done_or_refused}

-- All tests pass.
abbrev pub AllPass : List Test → Type 0
AllPass [] = Unit {0}
AllPass (test or_else cause ∷ more) = (test ≡ true) × AllPass more

-- Where nothing is refused, all tests pass.
pub all_pass : (ts : List Test) → first_refusal ts ≡ Done → AllPass ts
unfolding first_refusal
all_pass [] e = tt
all_pass (true or_else cause ∷ more) e = (refl, all_pass more e)
all_pass (false or_else cause ∷ more) e = done_or_refused e refl

-- Tests behind others decide where those all pass.
pub behind_passed : (ts us : List Test) → first_refusal ts ≡ Done → first_refusal (ts ++ us) ≡ first_refusal us
unfolding first_refusal
behind_passed [] us e = refl
behind_passed (true or_else cause ∷ more) us e = behind_passed more us e
behind_passed (false or_else cause ∷ more) us e = done_or_refused e refl

-- Where one of those refuses, they don't.
pub behind_refused : (ts us : List Test) (c : Cause) → first_refusal ts ≡ Refused c → first_refusal (ts ++ us) ≡ Refused c
unfolding first_refusal
behind_refused [] us c e = done_or_refused refl e
behind_refused (true or_else cause ∷ more) us c e = behind_refused more us c e
behind_refused (false or_else cause ∷ more) us c e = e

-- All causes have the property.
abbrev pub AllCauses : (Cause → Type 0) → List Test → Type 0
AllCauses P [] = Unit {0}
AllCauses P (test or_else cause ∷ more) = P cause × AllCauses P more

-- A refusal has one of the causes.
pub some_cause : (P : Cause → Type 0) (ts : List Test) → AllCauses P ts → (c : Cause) → first_refusal ts ≡ Refused c → P c
unfolding first_refusal
some_cause P [] h c e = done_or_refused refl e
some_cause P (true or_else cause ∷ more) h c e = some_cause P more h.1 c e
some_cause P (false or_else cause ∷ more) h c e = let q : cause ≡ c = cc in rw (← q) h.0
