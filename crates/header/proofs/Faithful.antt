-- The answer of load forgets nothing: equal answers come from equal structs.
-- Assumes nothing.
use Prim.Native.Nat.{ℕ}
use mathlib.Core.Path.{◌≡◌, refl, sym, ap, ◌∙◌}
use mathlib.Core.List.{List}
use Rattle.std.specs.Prelude.{Result, Ok, Err}
use Rattle.causes.specs.Causes.{Outcome, Done, Refused}
use Rattle.model.specs.Load.{Loading}
use Rattle.machine_record.specs.declared.Machine.{Machine}
use Rattle.machine_record.proofs.Faithful.{struct_of}
use Rattle.header.specs.declared.Refusal.{Refusal}
use Rattle.header.specs.Loading.{loading_of}

-- The answer of an outcome, with the line and the machine of a loading.
answered : Outcome → ℕ → Machine → Result Machine (Refusal ℕ)
answered Done line m = Ok m
answered (Refused c) line m = Err (record { cause = c; line = line })

-- The answer of a loading.
answer_at : Loading → Result Machine (Refusal ℕ)
answer_at x = answered x.outcome x.line (struct_of x.machine)

-- Every answer is the one of its loading.
answer_at_loading : (r : Result Machine (Refusal ℕ)) (w l : List ℕ) → answer_at (loading_of r w l) ≡ r
unfolding answer_at answered
answer_at_loading (Ok m) w l = refl
answer_at_loading (Err r) w l = refl

-- Equal answers come from equal structs.
pub same_answer : (r r' : Result Machine (Refusal ℕ)) (w l w' l' : List ℕ) → loading_of r w l ≡ loading_of r' w' l' → r ≡ r'
same_answer r r' w l w' l' e = sym (answer_at_loading r w l) ∙ ap answer_at e ∙ answer_at_loading r' w' l'
