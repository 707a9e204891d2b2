-- What `certify` answers, in the model's terms.
-- Assumes nothing.
use Rattle.std.specs.Prelude.{List, [], ◌∷◌, ℕ, Option, Some, None, Result, Ok, Err}
use Rattle.causes.specs.Causes.{Done, Refused}
use Rattle.model.specs.Record.{lent}
use Rattle.certificates.specs.Certificate.{Certificate, whole, Certifying}
use Rattle.header.specs.declared.Refusal.{Refusal}
use Rattle.certify.specs.declared.BreakCause.{BreakCause}
use Rattle.certify.specs.declared.BreakCause.TheVariants.{Release, Gate, Timing}
use Rattle.certify.specs.declared.Break.{Break}

-- The number of what breaks a certificate.
abbrev pub break_number : BreakCause → ℕ
break_number Release = 1
break_number Gate = 2
break_number Timing = 3

-- The certificate that a break is, or none.
abbrev pub certificate_of : Option Break → Certificate
certificate_of (Some b) = record { cause = break_number b.cause; tick = b.tick; place = b.place }
certificate_of None = whole

-- The numbers of a certificate, as its line and its buffer have them.
abbrev pub numbers_in : Certificate → List ℕ
numbers_in c = c.cause ∷ c.tick ∷ c.place ∷ []

-- The answer, with the lent words and labels at exit.
abbrev pub certifying_of : Result (Option Break) (Refusal ℕ) → List ℕ → List ℕ → Certifying
certifying_of (Ok found) words labels =
    record { outcome = Done; line = 0; certificate = certificate_of found; memory = lent words labels }
certifying_of (Err r) words labels =
    record { outcome = Refused r.cause; line = r.line; certificate = whole; memory = lent words labels }
