-- The pairs of the first gates, as a test of each.
-- Assumes nothing.
use Prim.Native.Nat.{ℕ, zero, suc, ◌≤◌}
use native.Mathlib.Omega.{arith}
use mathlib.Core.Path.{◌≡◌, refl}
use mathlib.Core.Bool.{Bool}
use mathlib.Core.List.{List, [], ◌∷◌}
use lib.ListN.{length, take, get_or}
use lib.Seq.{take-suc}
use Rattle.std.specs.List.{list_all}
use Rattle.std.proofs.Math.Bool.{and-true}
use Rattle.std.proofs.lemmas.List.Folds.{list_all-append}
use Rattle.model.specs.declared.CallGate.{CallGate}
use Rattle.model.specs.WellFormed.{is_valid, no_gate, gates_valid}

pub first_gates : (gates : List CallGate) (n : ℕ) → n ≤ length gates
    → list_all (λ (g : CallGate). is_valid g.pair) (take n gates) ≡ gates_valid gates n
unfolding gates_valid
first_gates gates zero h = refl
first_gates gates (suc n) h =
    let test : CallGate → Bool = λ (g : CallGate). is_valid g.pair in
    let before : list_all test (take n gates) ≡ gates_valid gates n = first_gates gates n (omega arith) in
    rw (take-suc gates n no_gate h, list_all-append test (take n gates) (get_or gates n no_gate ∷ []), before, and-true (test (get_or gates n no_gate))) refl
