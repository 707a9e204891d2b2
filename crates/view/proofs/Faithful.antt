-- The answer of view forgets nothing: equal answers come from equal structs.
-- Assumes nothing.
use Prim.Native.Nat.{ℕ}
use mathlib.Core.Path.{◌≡◌, refl, sym, ap, ◌∙◌}
use mathlib.Core.List.{List}
use Rattle.std.specs.Prelude.{Result, Ok, Err}
use Rattle.causes.specs.Causes.{Outcome, Done, Refused}
use Rattle.model.specs.View.{View}
use Rattle.view.specs.declared.Refused as struct
use Rattle.view.specs.Viewed.{viewed_of}

-- The answer of an outcome, with what stands beside it.
answered : Outcome → ℕ → ℕ → Result ℕ struct.Refused
answered Done value bytes = Ok bytes
answered (Refused c) value bytes = Err (record { cause = c; value = value })

-- The answer of a view.
answer_at : View → Result ℕ struct.Refused
answer_at x = answered x.outcome x.value x.bytes

-- Every answer is the one of its view.
answer_at_view : (r : Result ℕ struct.Refused) (o w l : List ℕ) → answer_at (viewed_of r o w l) ≡ r
unfolding answer_at answered
answer_at_view (Ok n) o w l = refl
answer_at_view (Err r) o w l = refl

-- Equal answers come from equal structs.
pub same_answer : (r r' : Result ℕ struct.Refused) (o w l o' w' l' : List ℕ) → viewed_of r o w l ≡ viewed_of r' o' w' l' → r ≡ r'
same_answer r r' o w l o' w' l' e = sym (answer_at_view r o w l) ∙ ap answer_at e ∙ answer_at_view r' o' w' l'
