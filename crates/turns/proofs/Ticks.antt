-- Laws about the ticks of the common ops: the ticks by an op's number are those of the model's row.
-- Assumes nothing.
use Rattle.std.proofs.Common.{◌≡◌, ℕ, zero, suc, ◌+◌, ◌<◌, ◌≤◌, Bool, true, false, ltb, List, [], ◌∷◌, get_or, refl, ap, ◌∙◌, ⊎_elim, arith, ltb-false, ltb-true}
use mathlib.Core.Bool.{false≢true}
use mathlib.Core.Option.{Option, none, some}
use lib.Bits.{bit_or}
use lib.ListN.{get_elem?}
use Rattle.principals.specs.Principals.{may_go}
use Rattle.labels.specs.Label.{label_count, lacking}
use Rattle.model.specs.Record.{State, value_at, label_at}
use Rattle.model.specs.Word.{add, subtract, and, or, xor, less, multiply, divide, remainder, equal, below, raise, relabel, Op, immediate, arithmetic, load, store, branch, jump, read_clock, set_label, set_pair, upcall, end_upcall, gate_call, gate_return, halt, ops, op_field, b_field, c_field, decode}
use Rattle.model.specs.Ops.{multiply_ticks, arithmetic_ticks, visible, table}
use Rattle.model.proofs.Multiply.{count_le}
use Rattle.model.proofs.Truth.{either}
use Rattle.model.specs.Step.{Fetched, failed, fetched, known}
use Rattle.parts.specs.Stages.{is_common_op}
use Rattle.turns.specs.Turned.{Mirrors}
use Rattle.turns.specs.Ticks.{common_ticks, fetched_ticks, ticks_at, Timing}
use Rattle.turns.proofs.Checks.{both_go}
use Rattle.turns.proofs.Fields.{b_below, c_below}

-- ---- the numbers of ops

-- The number of an op.
abbrev number : Op → ℕ
number immediate = 1
number (arithmetic add) = 2
number (arithmetic subtract) = 3
number (arithmetic and) = 4
number (arithmetic or) = 5
number (arithmetic xor) = 6
number (arithmetic less) = 7
number (arithmetic multiply) = 8
number load = 9
number store = 10
number (branch equal) = 11
number (branch below) = 12
number jump = 13
number read_clock = 14
number (set_label raise) = 15
number (set_label relabel) = 16
number set_pair = 17
number upcall = 18
number end_upcall = 19
number gate_call = 20
number gate_return = 21
number halt = 22
number (arithmetic divide) = 23
number (arithmetic remainder) = 24

-- The op that was fetched, and halt where none was.
abbrev op_in : Fetched → Op
op_in (failed why) = halt
op_in (fetched w op) = op

-- A word was fetched.
abbrev is_fetched : Fetched → Bool
is_fetched (failed why) = false
is_fetched (fetched w op) = true

-- These ops are numbered from m on.
abbrev Numbered : ℕ → List Op → Type 0
Numbered m [] = Unit {0}
Numbered m (op ∷ more) = (number op ≡ m) × Numbered (suc m) more

-- The op at k of them has the number m + k.
number_in : (w m k : ℕ) (xs : List Op) (op : Op) → Numbered m xs → known w (get_elem? xs k) ≡ fetched w op → m + k ≡ number op
number_in w m zero [] op h e = absurd (false≢true (ap is_fetched e))
number_in w m (suc k) [] op h e = absurd (false≢true (ap is_fetched e))
number_in w m zero (x ∷ xs) op h e = let q : number x ≡ number op = ap (λ (f : Fetched). number (op_in f)) e in omega (arith, q, h.0)
number_in w m (suc k) (x ∷ xs) op h e = let q = number_in w (suc m) k xs op h.1 e in omega (arith, q)

-- The number by which an op is found is its own.
pub number_of : (w n : ℕ) (op : Op) → known w (decode n) ≡ fetched w op → n ≡ number op
unfolding decode
number_of w zero op e = absurd (false≢true (ap is_fetched e))
number_of w (suc k) op e =
    let q =
    number_in w 1 k ops op
    (refl, (refl, (refl, (refl, (refl, (refl, (refl, (refl, (refl, (refl, (refl, (refl, (refl, (refl, (refl, (refl, (refl, (refl, (refl, (refl, (refl, (refl, (refl, (refl, tt))))))))))))))))))))))))
    e in
    omega (arith, q)

-- ---- the ticks

-- It is none of the numbers of ops that take more than one tick.
abbrev pub Brief : ℕ → Type 0
Brief n = ((((Unit {0} × (n ≡ 8 → ⊥)) × (n ≡ 9 → ⊥)) × (n ≡ 10 → ⊥)) × (n ≡ 23 → ⊥)) × (n ≡ 24 → ⊥)

-- Then its op takes one.
one_tick : (n : ℕ) (op : Op) (visible : Bool) (v : ℕ) → n ≡ number op → Brief n → 1 ≡ common_ticks op visible v
one_tick n immediate visible v e h = refl
one_tick n (arithmetic add) visible v e h = refl
one_tick n (arithmetic subtract) visible v e h = refl
one_tick n (arithmetic and) visible v e h = refl
one_tick n (arithmetic or) visible v e h = refl
one_tick n (arithmetic xor) visible v e h = refl
one_tick n (arithmetic less) visible v e h = refl
one_tick n (arithmetic multiply) visible v e h = absurd (h.0.0.0.0.1 e)
one_tick n (arithmetic divide) visible v e h = absurd (h.0.1 e)
one_tick n (arithmetic remainder) visible v e h = absurd (h.1 e)
one_tick n load visible v e h = absurd (h.0.0.0.1 e)
one_tick n store visible v e h = absurd (h.0.0.1 e)
one_tick n (branch f) visible v e h = refl
one_tick n jump visible v e h = refl
one_tick n read_clock visible v e h = refl
one_tick n (set_label f) visible v e h = refl
one_tick n set_pair visible v e h = refl
one_tick n upcall visible v e h = refl
one_tick n end_upcall visible v e h = refl
one_tick n gate_call visible v e h = refl
one_tick n gate_return visible v e h = refl
one_tick n halt visible v e h = refl

-- Whether the operands of a word may show in the time.
abbrev shown : ℕ → ℕ → List ℕ → Bool
shown w t turned = may_go (bit_or (get_or turned (b_field w) 0) (get_or turned (c_field w) 0)) (lacking t)

-- The ticks at a word, by the number of its op.
module _ (w t : ℕ) (values turned : List ℕ) {n : ℕ} (i : n ≡ op_field w) where
  -- The number of an op that is brief.
  pub brief : Brief n → 1 ≡ ticks_at w t values turned
  unfolding ticks_at
  brief h = rw (← i) (go (decode n) refl)
    where
      go : (o : Option Op) → decode n ≡ o → 1 ≡ fetched_ticks (known w o) (shown w t turned) (get_or values (c_field w) 0)
      go none e = refl
      go (some op) e = one_tick n op (shown w t turned) (get_or values (c_field w) 0) (number_of w n op (ap (known w) e)) h

  -- The number k of a known op.
  pub ticks_by : {k : ℕ} (op : Op) → n ≡ k → decode k ≡ some op
      → common_ticks op (shown w t turned) (get_or values (c_field w) 0) ≡ ticks_at w t values turned
  unfolding ticks_at
  ticks_by op e d = rw (← i, e, d)

  -- Ops 9 and 10.
  pub memory_by : 8 < n → n < 11 → 3 ≡ ticks_at w t values turned
  unfolding decode
  memory_by l u =
      ⊎_elim (λ (e : ltb n 10 ≡ true). let q = ltb-true n 10 e in ticks_by {k = 9} load (omega arith) refl)
      (λ (e : ltb n 10 ≡ false). let q = ltb-false n 10 e in ticks_by {k = 10} store (omega arith) refl) (either (ltb n 10))

  -- Op 8, by the numbers of its registers as the code has them.
  pub multiply_by : n ≡ 8 → {x y : ℕ} → x ≡ b_field w → y ≡ c_field w → {lacked : ℕ} → lacked ≡ lacking t → {v : Bool}
      → v ≡ may_go (bit_or (get_or turned x 0) (get_or turned y 0)) lacked → {r : ℕ} → r ≡ arithmetic_ticks multiply v (get_or values y 0)
      → r ≡ ticks_at w t values turned
  unfolding decode
  multiply_by e ex ey el ev er = rw (er, ev, el, ex, ey) (ticks_by (arithmetic multiply) e refl)

-- ---- the same in a state

-- The operands may show in the time: Lb and Lc flow to t.
module _ (w t : ℕ) (s : State) {values turned : List ℕ} (b : t < label_count) (et : s.control.pair.timing ≡ t) (ev : s.registers.values ≡ values) (m : Mirrors s.registers.labels turned) where
  -- Where the turned labels are those of the registers.
  shown_is : shown w t turned ≡ visible s w
  unfolding label_at
  shown_is =
      rw et
      (both_go (record { is = refl; below = b }) (record { is = m.held (b_field w) (b_below w) })
      (record { is = m.held (c_field w) (c_below w) }))

  -- The ticks of a common op are those of its row.
  row_ticks : (op : Op) → is_common_op op ≡ true → common_ticks op (shown w t turned) (get_or values (c_field w) 0) ≡ (table s w op).ticks
  unfolding table value_at
  row_ticks immediate c = refl
  row_ticks (arithmetic f) c = rw (shown_is, ev)
  row_ticks load c = refl
  row_ticks store c = refl
  row_ticks (branch f) c = refl
  row_ticks jump c = refl
  row_ticks read_clock c = refl
  row_ticks (set_label f) c = absurd (false≢true c)
  row_ticks set_pair c = absurd (false≢true c)
  row_ticks upcall c = absurd (false≢true c)
  row_ticks end_upcall c = absurd (false≢true c)
  row_ticks gate_call c = absurd (false≢true c)
  row_ticks gate_return c = absurd (false≢true c)
  row_ticks halt c = absurd (false≢true c)

-- No op takes more than 34.
few_ticks : (op : Op) (visible : Bool) (v : ℕ) → common_ticks op visible v ≤ 34
unfolding multiply_ticks
few_ticks immediate visible v = omega arith
few_ticks (arithmetic add) visible v = omega arith
few_ticks (arithmetic subtract) visible v = omega arith
few_ticks (arithmetic and) visible v = omega arith
few_ticks (arithmetic or) visible v = omega arith
few_ticks (arithmetic xor) visible v = omega arith
few_ticks (arithmetic less) visible v = omega arith
few_ticks (arithmetic multiply) visible v = omega (arith, count_le visible v)
few_ticks (arithmetic divide) visible v = omega arith
few_ticks (arithmetic remainder) visible v = omega arith
few_ticks load visible v = omega arith
few_ticks store visible v = omega arith
few_ticks (branch f) visible v = omega arith
few_ticks jump visible v = omega arith
few_ticks read_clock visible v = omega arith
few_ticks (set_label f) visible v = omega arith
few_ticks set_pair visible v = omega arith
few_ticks upcall visible v = omega arith
few_ticks end_upcall visible v = omega arith
few_ticks gate_call visible v = omega arith
few_ticks gate_return visible v = omega arith
few_ticks halt visible v = omega arith

-- The ticks at a word are those of its common op.
pub timing_is : (w t : ℕ) (values turned : List ℕ) {r : ℕ} → t < label_count → r ≡ ticks_at w t values turned → Timing w t values turned r
unfolding ticks_at
timing_is w t values turned b e =
    record {
      is =
          λ s op et ev m f c.
          e ∙ ap (λ (x : Fetched). fetched_ticks x (shown w t turned) (get_or values (c_field w) 0)) f ∙ row_ticks w t s b et ev m op c;
      few = rw e (at_most (known w (decode (op_field w))));
    }
  where
    at_most : (x : Fetched) → fetched_ticks x (shown w t turned) (get_or values (c_field w) 0) ≤ 34
    at_most (failed why) = omega arith
    at_most (fetched x op) = few_ticks op (shown w t turned) (get_or values (c_field w) 0)
