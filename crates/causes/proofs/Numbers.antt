-- The number of an outcome forgets nothing: equal numbers come from equal cases.
-- Assumes nothing.
use Prim.Native.Nat.{ℕ}
use mathlib.Core.Path.{◌≡◌, refl, sym, ap, ◌∙◌}
use mathlib.Core.Bool.{true, cond, false≢true}
use native.Mathlib.Omega.{arith}
use lib.Dec.{eqb}
use Rattle.causes.specs.declared.Cause.{Cause}
use Rattle.causes.specs.declared.Cause.TheVariants.{TextLength, MalformedLine, OutOfRange, OutOfOrder, InvalidPair, ShortMemory, IllFormed, ShortOutput, ZeroRegister, TickAboveLimit, MalformedRecord, MisplacedByte, GatePair}
use Rattle.std.specs.Prelude.{Result, Ok, Err}
use Rattle.causes.specs.Causes.{Outcome, Done, Refused, outcome_of, number_of, is_done}

-- The outcome that has this number.
outcome_at : ℕ → Outcome
outcome_at n =
    cond (eqb n 0) Done
    (cond (eqb n 1) (Refused TextLength)
    (cond (eqb n 2) (Refused MalformedLine)
    (cond (eqb n 3) (Refused OutOfRange)
    (cond (eqb n 4) (Refused OutOfOrder)
    (cond (eqb n 5) (Refused InvalidPair)
    (cond (eqb n 6) (Refused ShortMemory)
    (cond (eqb n 7) (Refused IllFormed)
    (cond (eqb n 8) (Refused ShortOutput)
    (cond (eqb n 9) (Refused ZeroRegister)
    (cond (eqb n 10) (Refused TickAboveLimit)
    (cond (eqb n 11) (Refused MalformedRecord)
    (cond (eqb n 12) (Refused MisplacedByte) (Refused GatePair)))))))))))))

-- Every outcome is the one of its number.
outcome_at_number : (o : Outcome) → outcome_at (number_of o) ≡ o
unfolding outcome_at
outcome_at_number Done = refl
outcome_at_number (Refused TextLength) = refl
outcome_at_number (Refused MalformedLine) = refl
outcome_at_number (Refused OutOfRange) = refl
outcome_at_number (Refused OutOfOrder) = refl
outcome_at_number (Refused InvalidPair) = refl
outcome_at_number (Refused ShortMemory) = refl
outcome_at_number (Refused IllFormed) = refl
outcome_at_number (Refused ShortOutput) = refl
outcome_at_number (Refused ZeroRegister) = refl
outcome_at_number (Refused TickAboveLimit) = refl
outcome_at_number (Refused MalformedRecord) = refl
outcome_at_number (Refused MisplacedByte) = refl
outcome_at_number (Refused GatePair) = refl

-- No two outcomes have one number.
pub same_outcome : (o o' : Outcome) → number_of o ≡ number_of o' → o ≡ o'
same_outcome o o' e = sym (outcome_at_number o) ∙ ap outcome_at e ∙ outcome_at_number o'

-- The answer of an outcome.
pub result_of : Outcome → Result Unit Cause
result_of Done = Ok tt
result_of (Refused c) = Err c

-- Every answer is the one of its outcome, so that an outcome forgets nothing of it.
pub result_of_outcome : (r : Result Unit Cause) → result_of (outcome_of r) ≡ r
unfolding result_of
result_of_outcome (Ok u) = refl
result_of_outcome (Err c) = refl

-- No refusal is done.
pub done_or_refused {ℓ} : {P : Type ℓ} {o : Outcome} {c : Cause} → o ≡ Done → o ≡ Refused c → P
done_or_refused e f = let z : ◌≡◌ {A = ℕ} 0 1 = cc in absurd (omega arith)

-- What is told as done is done.
pub is_done_lem : (o : Outcome) → is_done o ≡ true → o ≡ Done
is_done_lem Done e = refl
is_done_lem (Refused c) e = absurd (false≢true e)
