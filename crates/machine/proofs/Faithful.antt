-- The answer of a call forgets nothing: equal ones come from equal structs.
-- Assumes nothing.
use Prim.Native.Nat.{ℕ}
use mathlib.Core.Path.{◌≡◌, sym, ap, ◌∙◌}
use mathlib.Core.List.{List}
use Rattle.std.specs.Prelude.{Result}
use Rattle.causes.specs.declared.Cause.{Cause}
use Rattle.causes.proofs.Numbers.{result_of, result_of_outcome}
use Rattle.model.specs.Answer as model
use Rattle.machine_record.proofs.Faithful.{struct_of}
use Rattle.machine.specs.declared.Answer.{Answer}
use Rattle.machine.specs.Answered.{answered}

-- Equal answers come from equal structs.
pub same_answer : (r r' : Answer) (w l w' l' : List ℕ) → answered r w l ≡ answered r' w' l' → r ≡ r'
same_answer r r' w l w' l' e = sym (answer_at_answered r w l) ∙ ap answer_at e ∙ answer_at_answered r' w' l'
  where
    answer_at : model.Answer → Answer
    answer_at x = record { outcome = result_of x.outcome; machine = struct_of x.machine }

    answer_at_answered : (r : Answer) (w l : List ℕ) → answer_at (answered r w l) ≡ r
    answer_at_answered r w l = ap (λ (o : Result Unit Cause). record { outcome = o; machine = r.machine }) (result_of_outcome r.outcome)
