-- What a well-formed state has: the definition's test of its record taken apart, what the types say of its lists, and
-- that its memory is lent whole. Every law about a step rests on it.
-- Assumes nothing.
use Prim.Native.Nat.{ℕ, zero, suc, ◌^◌, ◌<◌, ◌≤◌}
use mathlib.Core.Path.{◌≡◌, refl, sym, subst}
use mathlib.Core.Bool.{true, false}
use mathlib.Core.Logic.{⊎_elim}
use mathlib.Core.List.{List}
use native.Mathlib.Omega.{arith}
use lib.Dec.{ltb, eqb, lit<}
use lib.ListN.{length, get_or, get_or-eq_default}
use borrow.Author.Tests.{leb-true, le-leb, ltb-true, ltb-false, lt-ltb, eqb-true, eqb-false}
use Rattle.labels.specs.Label.{principals, lowest}
use Rattle.principals.proofs.Laws.{Flows}
use Rattle.model.specs.declared.Pair.{Pair}
use Rattle.model.specs.declared.CallGate.{CallGate}
use Rattle.model.specs.declared.Fixed.{Fixed}
use Rattle.model.specs.declared.Control.{Control}
use Rattle.model.specs.declared.Call.{Call}
use Rattle.model.specs.declared.Call.TheVariants.{Empty, Gate, Upcall}
use Rattle.model.specs.Record.{Bank, Machine, State, register, value_at, label_at, machine_of}
use Rattle.model.specs.WellFormed.{is_valid, fixed_in_range, end_in_range, upcall_well_formed, calls_well_formed, zero_reads, no_gate, gates_valid, well_formed, lent_whole}
use Rattle.model.specs.Numbers.{zero_register, value_count}
use Rattle.model.specs.Inner.Typed.{Below, Typed}
use Rattle.model.proofs.Truth.{either, and_iff, clash}

-- The one label flows to the other.
abbrev pub ◌⊑◌ : ℕ → ℕ → Type 0
◌⊑◌ = Flows principals

infix 4 ◌⊑◌
-- ---- the test taken apart

-- The ranges of size, limit and number of gates, and the pairs of the gates.
pub record FixedFit (f : Fixed) : Type 0 where
  pub size_low : 1 ≤ f.size
  pub size_high : f.size ≤ 2048
  pub limit_low : 1 ≤ f.limit
  pub limit_high : f.limit ≤ 2 ^ 24
  pub gates : f.count ≤ 8
  pub pairs : (k : ℕ) → k < f.count → is_valid (get_or f.gates k no_gate).pair ≡ true

-- What is asked of an upcall that is kept while the pair is `now` and the clock stands at `clock`.
pub record UpcallFit (now : Pair) (clock : ℕ) (q : Pair) (e : ℕ) : Type 0 where
  pub valid : is_valid q ≡ true
  pub pc : q.pc ⊑ now.pc
  pub timing : q.timing ⊑ now.timing
  pub started : clock ≤ e
  pub bounded : e < 2 ^ 33

-- The four shapes of the two places for open calls.
pub data CallsFit (now : Pair) (clock : ℕ) : Call → Call → Type 0 where
  none : CallsFit now clock Empty Empty
  gate : {k : ℕ} {q : Pair} → is_valid q ≡ true → CallsFit now clock (Gate k q) Empty
  upcall : {k e : ℕ} {q : Pair} → UpcallFit now clock q e → CallsFit now clock (Upcall k q e) Empty
  both : {k j e : ℕ} {q r : Pair} → is_valid q ≡ true → UpcallFit now clock r e → CallsFit now clock (Gate k q) (Upcall j r e)

-- What a well-formed record has.
pub record Fit (r : Machine) : Type 0 where
  pub fixed : FixedFit r.fixed
  pub end : end_in_range r.control ≡ true
  pub clock : r.control.clock ≤ r.fixed.limit
  pub valid : is_valid r.control.pair ≡ true
  pub calls : CallsFit r.control.pair r.control.clock r.control.first r.control.second
  pub zero : zero_reads r.registers ≡ true

-- Of gates that pass the test, each has a valid pair.
gate_valid : (gs : List CallGate) (n : ℕ) → gates_valid gs n ≡ true → (k : ℕ) → k < n → is_valid (get_or gs k no_gate).pair ≡ true
unfolding gates_valid
gate_valid gs zero e k h = absurd (omega arith)
gate_valid gs (suc n) e k h =
    let q = (and_iff _ _).0 e in
    ⊎_elim
    (λ (d : eqb k n ≡ true). subst (λ (j : ℕ). is_valid (get_or gs j no_gate).pair ≡ true) (sym (eqb-true k n d)) q.1)
    (λ (d : eqb k n ≡ false). let other = eqb-false k n d in gate_valid gs n q.0 k (omega arith))
    (either (eqb k n))

-- Gates that each have one pass it.
gates_valid_lem : (gs : List CallGate) (n : ℕ) → ((k : ℕ) → k < n → is_valid (get_or gs k no_gate).pair ≡ true) → gates_valid gs n ≡ true
unfolding gates_valid
gates_valid_lem gs zero h = refl
gates_valid_lem gs (suc n) h = rw (gates_valid_lem gs n (λ k l. h k (omega arith)), h n (omega arith))

fixed_fit : (f : Fixed) → fixed_in_range f ≡ true → gates_valid f.gates f.count ≡ true → FixedFit f
unfolding fixed_in_range
fixed_fit f e g =
    let h = simp and_iff at e in
    record {
      size_low = leb-true 1 f.size h.0.0.0;
      size_high = leb-true f.size 2048 h.0.0.1;
      limit_low = leb-true 1 f.limit h.0.1.0;
      limit_high = leb-true f.limit (2 ^ 24) h.0.1.1;
      gates = leb-true f.count 8 h.1;
      pairs = gate_valid f.gates f.count g;
    }

fixed_fits : {f : Fixed} → FixedFit f → fixed_in_range f ≡ true
unfolding fixed_in_range
fixed_fits h = rw (le-leb _ _ h.size_low, le-leb _ _ h.size_high, le-leb _ _ h.limit_low, le-leb _ _ h.limit_high, le-leb _ _ h.gates)

upcall_fit : (c : Control) (q : Pair) (e : ℕ) → upcall_well_formed c q e ≡ true → UpcallFit c.pair c.clock q e
unfolding upcall_well_formed
upcall_fit c q e t =
    let h = simp and_iff at t in
    record {
      valid = h.0.0.0.0;
      pc = record { holds = h.0.0.0.1 };
      timing = record { holds = h.0.0.1 };
      started = leb-true c.clock e h.0.1;
      bounded = ltb-true e (2 ^ 33) h.1;
    }

upcall_fits : (c : Control) {q : Pair} {e : ℕ} → UpcallFit c.pair c.clock q e → upcall_well_formed c q e ≡ true
unfolding upcall_well_formed
upcall_fits c h = rw (h.valid, h.pc.holds, h.timing.holds, le-leb _ _ h.started, lt-ltb _ _ h.bounded)

calls_fit : (c : Control) (x y : Call) → calls_well_formed c x y ≡ true → CallsFit c.pair c.clock x y
calls_fit c Empty Empty e = none
calls_fit c Empty (Gate k q) e = clash e refl
calls_fit c Empty (Upcall k q t) e = clash e refl
calls_fit c (Gate k q) Empty e = gate e
calls_fit c (Gate k q) (Gate j r) e = clash e refl
calls_fit c (Gate k q) (Upcall j r t) e = let h = simp and_iff at e in both h.0 (upcall_fit c r t h.1)
calls_fit c (Upcall k q t) Empty e = upcall (upcall_fit c q t e)
calls_fit c (Upcall k q t) (Gate j r) e = clash e refl
calls_fit c (Upcall k q t) (Upcall j r u) e = clash e refl

calls_fits : (c : Control) {x y : Call} → CallsFit c.pair c.clock x y → calls_well_formed c x y ≡ true
calls_fits c none = refl
calls_fits c (gate h) = h
calls_fits c (upcall h) = upcall_fits c h
calls_fits c (both h k) = rw (h, upcall_fits c k)

-- A record that passes the test is well-formed in each respect.
pub fit : (r : Machine) → well_formed r ≡ true → Fit r
unfolding well_formed
fit r e =
    let h = simp and_iff at e in
    record {
      fixed = fixed_fit r.fixed h.0.0.0.0.0.0 h.1;
      end = h.0.0.0.0.0.1;
      clock = leb-true r.control.clock r.fixed.limit h.0.0.0.0.1;
      valid = h.0.0.0.1;
      calls = calls_fit r.control r.control.first r.control.second h.0.0.1;
      zero = h.0.1;
    }

-- A record that is well-formed in each respect passes the test.
pub fits : (r : Machine) → Fit r → well_formed r ≡ true
unfolding well_formed
fits r h =
    rw
    (fixed_fits h.fixed, h.end, le-leb _ _ h.clock, h.valid, calls_fits r.control h.calls, h.zero, gates_valid_lem _ _ h.fixed.pairs)

-- ---- the memory that is lent

-- Memory that is lent whole: words and labels are each at least as long as the size.
pub whole_lengths : (size : ℕ) (m : Bank) → lent_whole size m ≡ true → (size ≤ length m.values) × (size ≤ length m.labels)
unfolding lent_whole
whole_lengths size m e =
    let h = (and_iff _ _).0 e in (leb-true size (length m.values) h.0, leb-true size (length m.labels) h.1)

-- Where they are, it is.
pub whole_lent : (size : ℕ) (m : Bank) → size ≤ length m.values → size ≤ length m.labels → lent_whole size m ≡ true
unfolding lent_whole
whole_lent size m w l = rw (le-leb size (length m.values) w, le-leb size (length m.labels) l)

-- ---- the state

-- A state that a call is carried out on: its record is well-formed, its lists are as the types say, and the lent words and
-- labels are each at least as long as the size.
pub record Ready (s : State) : Type 0 where
  pub fit : Fit (machine_of s)
  pub typed : Typed s
  pub words : s.fixed.size ≤ length s.memory.values
  pub labels : s.fixed.size ≤ length s.memory.labels

-- A well-formed record whose lists are as the types say, lent its whole memory, is ready.
pub ready : (s : State) → Typed s → well_formed (machine_of s) ≡ true → lent_whole s.fixed.size s.memory ≡ true → Ready s
ready s t f l =
    let h = whole_lengths s.fixed.size s.memory l in
    record { fit = fit (machine_of s) f; typed = t; words = h.0; labels = h.1 }

-- Register 0 reads 0 with the lowest label.
pub zero_reads_lem : (s : State) → Ready s
    → (value_at s (register zero_register) ≡ 0) × (label_at s (register zero_register) ≡ lowest)
unfolding zero_reads value_at label_at
zero_reads_lem s r = let h = simp and_iff at r.fit.zero in (eqb-true _ _ h.0, eqb-true _ _ h.1)

-- A list of n numbers below k, where 0 is one: whatever is read of it is below k.
below_anywhere : {k n : ℕ} (xs : List ℕ) → length xs ≡ n → Below k n xs → 0 < k → (i : ℕ) → get_or xs i 0 < k
below_anywhere {k} {n} xs l b z i =
    ⊎_elim
    (λ (e : ltb i n ≡ true). b i (ltb-true i n e))
    (λ (e : ltb i n ≡ false). let h : length xs ≤ i = omega (arith, ltb-false i n e) in rw (get_or-eq_default xs 0 h) z)
    (either (ltb i n))

-- The value of a register has 32 bits.
pub register_value : (s : State) → Ready s → (k : ℕ) → get_or s.registers.values k 0 < value_count
register_value s r =
    below_anywhere s.registers.values r.typed.registers.values r.typed.registers.numbers.values (lit< tt)
