-- The run looked at, as its functions promise it.
-- Assumes nothing.
use Rattle.std.specs.Prelude.{ℕ, ◌+◌, ◌-◌, ◌≡◌, Bool, true, cond, List, Option, eqb}
use Rattle.model.specs.declared.Control.{Control}
use Rattle.model.specs.Record.{State, machine_of, lent}
use Rattle.model.specs.WellFormed.{well_formed, lent_whole}
use Rattle.model.specs.Step.{run}
use Rattle.model.specs.Inner.Typed.{Typed}
use Rattle.certificates.specs.Certificate.{certify}
use Rattle.certificates.specs.Certificate as model
use Rattle.certify.specs.declared.Break.{Break}
use Rattle.certify.specs.Certified.{certificate_of}
use Rattle.certify.specs.Inner.Breaks.{break_with}

-- The break of a step from this place to this control, or none.
abbrev pub first_with : ℕ → Bool → Bool → ℕ → Control → model.Certificate
first_with ℓ opened attempted place after =
    cond attempted (record { cause = 1; tick = after.clock; place = place }) (break_with ℓ opened after)

-- How many steps are left to look at, at the most: of an ended record none is.
abbrev pub steps_left : ℕ → Control → ℕ
steps_left limit c = cond (eqb c.end 0) (limit - c.clock + 1) 0

-- A loaded state: its record is well-formed, its lists are as the types say, and memory is lent whole.
pub record Loaded (s : State) : Type 0 where
  pub typed : Typed s
  pub formed : well_formed (machine_of s) ≡ true
  pub whole : lent_whole s.fixed.size s.memory ≡ true

-- The first break of the run from s on was found, and the run was done.
pub record Watched (ℓ : ℕ) (s : State) (r : Option Break) (words labels : List ℕ) : Type 0 where
  pub certificate : certificate_of r ≡ certify ℓ s
  pub memory : lent words labels ≡ (run s).memory
