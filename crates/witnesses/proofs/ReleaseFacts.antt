-- The witnesses for releases, by computation: first that the tests say what the statement says, then the facts.
-- Assumes nothing.
use Prim.Native.Nat.{ℕ}
use mathlib.Core.Path.{◌≡◌, refl}
use mathlib.Core.Bool.{Bool, true, false}
use mathlib.Core.List.{List}
use lib.Dec.{eqb, ltb}
use lib.ListN.{get_or}
use borrow.Author.Tests.{ltb-true, eqb-true, eq-eqb}
use Rattle.labels.specs.Label.{label_count, trusted}
use Rattle.model.specs.declared.CallGate.{CallGate}
use Rattle.model.specs.Numbers.{value_count}
use Rattle.model.specs.Record.{Bank, State, Location, register}
use Rattle.model.specs.WellFormed.{no_gate}
use Rattle.model.specs.Inner.Typed.{BankTyped}
use Rattle.releases.specs.Release.{Runs, Releases, SameRelease}
use Rattle.model.specs.Facts.{every}
use Rattle.model.specs.Seen.{SameSetting}
use Rattle.model.proofs.Truth.{and_iff, not_iff, clash}
use Rattle.releases.proofs.Release.{unsteered}
use Rattle.witnesses.specs.Witness.{each}
use Rattle.witnesses.specs.Releases.{bank_typed, typed, runs, same_gate, same_fixed, hypotheses, releases, same_release, Steered, first, second, release_table, EachNeeded}
use Rattle.witnesses.proofs.WitnessFacts.{each_at, pair_one, call_one, sight, computing}

-- ---- the tests say what the statement says

-- Numbers that are tested to be as the types have them are.
bank_typed_lem : (n : ℕ) (b : Bank) → bank_typed n b ≡ true → BankTyped n b
unfolding bank_typed
bank_typed_lem n b e =
    let values : ℕ → Bool = λ k. ltb (get_or b.values k 0) value_count in
    let labels : ℕ → Bool = λ k. ltb (get_or b.labels k 0) label_count in
    let h = (and_iff (each n values) (each n labels)).0 e in
    record {
      values = λ k l. ltb-true _ _ (each_at n values h.0 k l);
      labels = λ k l. ltb-true _ _ (each_at n labels h.1 k l);
    }

-- A record that is tested to be fit, running and lent whole is.
runs_there : (a : State) → runs a ≡ true → Runs a
unfolding runs typed
runs_there a e =
    let h = simp and_iff at e in
    record {
      typed =
          record {
            registers =
                record {
                  values = eqb-true _ _ h.0.0.0.0.0.0;
                  labels = eqb-true _ _ h.0.0.0.0.0.1;
                  numbers = bank_typed_lem _ _ h.0.0.0.0.1;
                };
            memory = bank_typed_lem _ _ h.0.0.0.1;
          };
      fit = h.0.0.1;
      runs = h.0.1;
      whole = h.1;
    }

-- Gates that are tested to be one are.
gate_one : (g h : CallGate) → same_gate g h ≡ true → g ≡ h
unfolding same_gate
gate_one g h e =
    let k = (and_iff _ _).0 e in
    let a = eqb-true _ _ k.0 in
    let b = pair_one _ _ k.1 in λ i. record { entry = a i; pair = b i }

-- Settings that are tested to be equal are.
same_setting : (a b : State) → same_fixed a.fixed b.fixed ≡ true → eqb a.fixed.limit b.fixed.limit ≡ true
    → SameSetting a b
unfolding same_fixed
same_setting a b e l =
    let h = simp and_iff at e in
    record {
      size = eqb-true _ _ h.0.0.0;
      limit = eqb-true _ _ l;
      errorpc = eqb-true _ _ h.0.0.1;
      count = eqb-true _ _ h.0.1;
      gates =
          λ k i. gate_one _ _
          (each_at a.fixed.count (λ k. same_gate (get_or a.fixed.gates k no_gate) (get_or b.fixed.gates k no_gate)) h.1 k i);
    }

-- A step that is tested to release x does.
releases_there : (s : ℕ) (a : State) (x : Location) → releases s a x ≡ true → Releases s a x
unfolding releases
releases_there s a x e =
    let h = simp (and_iff, not_iff) at e in record { there = h.0.0; before = h.0.1; after = h.1 }

-- Two records that are tested to meet every hypothesis: the theorem, applied to them.
unsteered_at : (j s : ℕ) (a b : State) (x : Location) → every (hypotheses j s a b) ≡ true → releases s a x ≡ true → SameRelease a b x
unsteered_at j s a b x e r =
    let h = simp and_iff at e in
    unsteered j s ((not_iff _).0 h.0) a b (runs_there a h.1.0.0) (runs_there b h.1.0.1)
    (same_setting a b h.1.1.0 h.1.1.1.0)
    (record {
      pc = eqb-true _ _ h.1.1.1.1.0;
      pair = pair_one _ _ h.1.1.1.1.1.0;
      clock = eqb-true _ _ h.1.1.1.1.1.1.0;
      first = call_one _ _ h.1.1.1.1.1.1.1.0.0;
      second = call_one _ _ h.1.1.1.1.1.1.1.0.1;
    })
    (sight (trusted j) a b h.1.1.1.1.1.1.1.1.0) x (releases_there s a x r)

-- Where a label or value of x is tested to differ, it does.
differs : (a b : State) (x : Location) → same_release a b x ≡ false → SameRelease a b x → ⊥
unfolding same_release
differs a b x e h =
    clash (rw (eq-eqb _ _ h.old, eq-eqb _ _ h.new, eq-eqb _ _ h.value, eq-eqb _ _ h.kept)) e

-- Two records of which the first releases and the second doesn't do the same.
steered : {j s : ℕ} {a b : State} {x : Location} {held : List Bool} → hypotheses j s a b ≡ held → releases s a x ≡ true
    → same_release a b x ≡ false → Steered j s a b x held
steered {s = s} {a = a} {b = b} {x = x} e r d =
    record { met = e; release = releases_there s a x r; steered = differs a b x d }

-- ---- the facts

-- All that they compute with.
unfoldable pub releasing : Bool
unfolding computing bank_typed typed runs same_gate same_fixed releases same_release
releasing = true

-- Both records release, though they differ.
pub release_holds : every release_table ≡ true
unfolding releasing
release_holds = refl

-- The theorem, applied to them.
pub witness_released : SameRelease first second (register 1)
unfolding releasing
witness_released = unsteered_at 1 2 first second (register 1) refl refl

-- Without any one of these hypotheses the statement would be false.
pub each_needed : EachNeeded
unfolding releasing
each_needed =
    record {
      outside = steered refl refl refl;
      runs = steered refl refl refl;
      limit = steered refl refl refl;
      pc = steered refl refl refl;
      pair = steered refl refl refl;
      clock = steered refl refl refl;
      calls = steered refl refl refl;
      values = steered refl refl refl;
      labels = steered refl refl refl;
    }
