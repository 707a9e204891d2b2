-- What a step's decision tells of the state in which it is taken: the facts that the checks of the op table establish, by
-- kind of change and not by op. All later proofs go by these.
-- Assumes nothing.
use Prim.Native.Nat.{ℕ, ◌+◌, ◌%◌, ◌^◌, ◌<◌, ◌≤◌}
use mathlib.Core.Path.{◌≡◌, refl}
use mathlib.Core.Logic.{◌⊎◌, inl, inr, ⊎_elim}
use mathlib.Core.Bool.{Bool, true, false, ◌&&◌, ◌||◌, cond}
use mathlib.Core.Option.{Option, none, some}
use native.Mathlib.Nat.{mod-lt, lt_trans}
use native.Mathlib.Omega.{arith}
use lib.Bits.{and_lt, or_lt, xor_lt}
use lib.Dec.{ltb, eqb, lit<, lit≤}
use lib.ListN.{get_or}
use borrow.Author.Tests.{ltb-true, ltb-false, eqb-true}
use Rattle.labels.specs.Label.{label_count}
use Rattle.principals.proofs.Laws.{join_flows, flows_meet, raise_flows_old, raise_flows_new, relabel_flows_old, relabel_flows_new}
use Rattle.model.specs.declared.Pair.{Pair}
use Rattle.model.specs.declared.CallGate.{CallGate}
use Rattle.model.specs.Numbers.{zero_register, register_count}
use Rattle.model.specs.Record.{State, Location, register, word, value_at, label_at, is_empty, is_gate, pair_of, newest, in_upcall}
use Rattle.model.specs.WellFormed.{is_valid, no_gate}
use Rattle.model.specs.Word.{Arithmetic, add, subtract, and, or, xor, less, multiply, divide, remainder, Rule, raise, relabel, Op, immediate, arithmetic, load, store, branch, jump, read_clock, set_label, set_pair, upcall, end_upcall, gate_call, gate_return, halt, op_field, a_field, n_field, decode, compute}
use Rattle.model.specs.Ops.{writable, Write, nothing, value, label, Change, write, goto, enter, open_upcall, open_gate, close_gate, stop, Effect, does, ends, Row, allows, new_pair_allowed, may_upcall, may_call_gate, may_return, multiply_ticks, arithmetic_ticks, is_label, Ra, Rb, new_pair, gate, table}
use Rattle.model.specs.Step.{known, fetch_allowed, fetch, Decision, rest, spend, stall, close, carry, end_tick, finish, fault, passed, attempt, in_time, plan, beyond_limit, in_limit, running, decide}
use Rattle.model.proofs.Ready.{◌⊑◌, Ready, register_value}
use Rattle.model.proofs.Division.{division_ticks, division_lt}
use Rattle.model.proofs.Truth.{choice, and_iff, or_iff, or_true, not_iff, clash}

-- A location is a register that exists, or a word below the size.
abbrev pub Inside : State → Location → Type 0
Inside s (register k) = k < register_count
Inside s (word k) = k < s.fixed.size

-- A location can be written: it isn't register 0.
abbrev pub Writable : Location → Type 0
Writable (register k) = zero_register < k
Writable (word k) = Unit

module _ (s : State) where
  -- The current pc label and timing label.
  abbrev pc_label : ℕ
  pc_label = s.control.pair.pc

  abbrev timing_label : ℕ
  timing_label = s.control.pair.timing

  -- A write under the pc label p: its location exists and isn't register 0. For a value, p flows to the label that stands
  -- there, and it has 32 bits; for a label, a rule allows it, and it is one.
  pub data LegalWrite : Write → Type 0 where
    keeps : LegalWrite nothing
    sets : {x : Location} {v : ℕ} → Inside s x → Writable x → pc_label ⊑ label_at s x → v < 2 ^ 32 → LegalWrite (value x v)
    marks : {x : Location} {l : ℕ} → Inside s x → Writable x → (f : Rule) → allows f pc_label (label_at s x) l ≡ true
        → l < label_count → LegalWrite (label x l)

  -- An upcall that keeps the end tick e under the new pair q, in so many ticks.
  pub record LegalUpcall (q : Pair) (e ticks : ℕ) : Type 0 where
    pub outside : in_upcall s.control ≡ false
    pub valid : is_valid q ≡ true
    pub pc : pc_label ⊑ q.pc
    pub timing : timing_label ⊑ q.pc
    pub early : s.control.clock + ticks ≤ e
    pub late : e < s.control.clock + ticks + 2 ^ 32

  -- A gate call through g, which is one of the gates that there are.
  pub record LegalGate (g : CallGate) : Type 0 where
    pub number : ℕ
    pub below : number < s.fixed.count
    pub listed : get_or s.fixed.gates number no_gate ≡ g
    pub empty : is_empty (newest s.control) ≡ true
    pub valid : is_valid g.pair ≡ true
    pub pc : g.pair.pc ⊑ pc_label
    pub timing : g.pair.timing ⊑ pc_label

  -- The pair that the newest call keeps.
  abbrev kept_pair : Pair
  kept_pair = pair_of (newest s.control)

  -- A change that takes so many ticks.
  pub data LegalChange : ℕ → Change → Type 0 where
    writes : {ticks : ℕ} {x : Write} → LegalWrite x → LegalChange ticks (write x)
    goes : {ticks k : ℕ} → LegalChange ticks (goto k)
    enters : {ticks : ℕ} {q : Pair} → is_valid q ≡ true → pc_label ⊑ q.pc → timing_label ⊑ q.timing → LegalChange ticks (enter q)
    calls : {ticks k e : ℕ} {q : Pair} → LegalUpcall q e ticks → LegalChange ticks (open_upcall k q e)
    gates : {ticks : ℕ} {g : CallGate} → LegalGate g → LegalChange ticks (open_gate g)
    returns : {ticks : ℕ} → is_gate (newest s.control) ≡ true → pc_label ⊑ kept_pair.pc → LegalChange ticks close_gate
    stops : {ticks : ℕ} → in_upcall s.control ≡ false → LegalChange ticks stop

  -- The effect of an op that passes its check.
  pub data LegalEffect : ℕ → Effect → Type 0 where
    carried : {ticks : ℕ} {c : Change} → LegalChange ticks c → LegalEffect ticks (does c)
    ended : {ticks : ℕ} → in_upcall s.control ≡ true → LegalEffect ticks ends

  -- A row of the table: it takes at least a tick, and where its check passes its effect is legal.
  pub record LegalRow (r : Row) : Type 0 where
    pub long : 1 ≤ r.ticks
    pub passes : r.check ≡ true → LegalEffect r.ticks r.effect

-- ---- the rules

-- Ops 15 and 16: the rule implies that p flows to the old label and to the new one.
pub allowed : (f : Rule) (p l m : ℕ) → allows f p l m ≡ true → (p ⊑ l) × (p ⊑ m)
allowed raise p l m e = (raise_flows_old _ p l m e, raise_flows_new _ p l m e)
allowed relabel p l m e = (relabel_flows_old _ p l m e, relabel_flows_new _ p l m e)

-- ---- numbers

-- A register number is below 16.
field_lt : (x : ℕ) → x % 2 ^ 4 < 16
field_lt x = mod-lt x (lit< tt)

-- A test's 1 or 0 has 32 bits.
bit_lt : (b : Bool) → cond b 1 0 < 2 ^ 32
bit_lt true = lit< tt
bit_lt false = lit< tt

-- What passes for a register that can be written is one.
pub writable_register : (k : ℕ) → writable k ≡ true → Writable (register k)
unfolding writable
writable_register k e = ltb-true zero_register k e

-- What passes for a label is one.
label_lt : (v : ℕ) → is_label v ≡ true → v < label_count
unfolding is_label
label_lt v e = ltb-true v label_count e

-- What an arithmetic op computes has 32 bits.
compute_lt : (f : Arithmetic) (x y : ℕ) → x < 2 ^ 32 → y < 2 ^ 32 → compute f x y < 2 ^ 32
unfolding compute
compute_lt add x y hx hy = mod-lt _ (lit< tt)
compute_lt subtract x y hx hy = mod-lt _ (lit< tt)
compute_lt and x y hx hy = and_lt 32 x y hx hy
compute_lt or x y hx hy = or_lt 32 x y hx hy
compute_lt xor x y hx hy = xor_lt 32 x y hx hy
compute_lt less x y hx hy = bit_lt (ltb x y)
compute_lt multiply x y hx hy = mod-lt _ (lit< tt)
compute_lt divide x y hx hy = (division_lt x y hx).0
compute_lt remainder x y hx hy = (division_lt x y hx).1

-- Every op takes at least a tick.
pub ticks_long : (f : Arithmetic) (visible : Bool) (v : ℕ) → 1 ≤ arithmetic_ticks f visible v
unfolding multiply_ticks
ticks_long add visible v = lit≤ tt
ticks_long subtract visible v = lit≤ tt
ticks_long and visible v = lit≤ tt
ticks_long or visible v = lit≤ tt
ticks_long xor visible v = lit≤ tt
ticks_long less visible v = lit≤ tt
ticks_long multiply visible v = omega arith
ticks_long divide visible v = rw (division_ticks visible v).0 (lit≤ tt)
ticks_long remainder visible v = rw (division_ticks visible v).1 (lit≤ tt)

-- A test of two numbers below and two equal: of what it says one holds.
below_or_equal : (i j m n : ℕ) → (ltb i j || eqb m n) ≡ true → (i < j) ⊎ (m ≡ n)
below_or_equal i j m n e =
    ⊎_elim (λ a. inl (ltb-true i j a)) (λ a. inr (eqb-true m n a)) (or_true (ltb i j) (eqb m n) e)

-- ---- the op table

module _ (s : State) (ready : Ready s) (w : ℕ) where
  -- The value of a register has 32 bits.
  reads : (k : ℕ) → value_at s (register k) < 2 ^ 32
  unfolding value_at
  reads k = register_value s ready k

  -- So has the value of a word.
  reads_word : (k : ℕ) → k < s.fixed.size → value_at s (word k) < 2 ^ 32
  unfolding value_at
  reads_word k h = ready.typed.memory.values k h

  n_lt : n_field w < 2 ^ 32
  unfolding n_field
  n_lt = lt_trans (mod-lt w (lit< tt)) (lit< tt)

  a_inside : a_field w < 16
  unfolding a_field
  a_inside = field_lt _

  -- A value set in register a under a check that it can be written and that p flows to its label.
  sets_a : {v ticks : ℕ} → writable (a_field w) ≡ true → pc_label s ⊑ label_at s (register (a_field w)) → v < 2 ^ 32
      → LegalEffect s ticks (does (write (value (register (a_field w)) v)))
  sets_a k h lt = carried (writes (sets a_inside (writable_register _ k) h lt))

  -- Every row is legal.
  row_legal : (op : Op) → LegalRow s (table s w op)
  unfolding table new_pair_allowed may_upcall may_call_gate may_return
  row_legal immediate =
      record {
        long = lit≤ tt;
        passes = λ e. let h = simp and_iff at e in sets_a h.1 (record { holds = h.0 }) n_lt;
      }
  row_legal (arithmetic f) =
      record {
        long = ticks_long f _ _;
        passes = λ e. let h = simp (and_iff, join_flows) at e in
            sets_a h.1 (record { holds = h.0.0.0 }) (compute_lt f _ _ (reads _) (reads _));
      }
  row_legal load =
      record {
        long = lit≤ tt;
        passes = λ e. let h = simp (and_iff, join_flows) at e in
            sets_a h.1 (record { holds = h.0.1.0.0 }) (reads_word _ (ltb-true _ _ h.0.0));
      }
  row_legal store =
      record {
        long = lit≤ tt;
        passes = λ e. let h = simp (and_iff, join_flows) at e in
            carried (writes (sets (ltb-true _ _ h.0) tt (record { holds = h.1.0.0 }) (reads _)));
      }
  row_legal (branch f) = record { long = lit≤ tt; passes = λ e. carried goes }
  row_legal jump = record { long = lit≤ tt; passes = λ e. carried goes }
  row_legal read_clock =
      record {
        long = lit≤ tt;
        passes = λ e. let h = simp (and_iff, join_flows) at e in
            sets_a h.1 (record { holds = h.0.0 }) (mod-lt _ (lit< tt));
      }
  row_legal (set_label f) =
      record {
        long = lit≤ tt;
        passes = λ e. let h = simp and_iff at e in
            carried (writes (marks a_inside (writable_register _ h.1) f h.0.0.1 (label_lt _ h.0.0.0)));
      }
  row_legal set_pair =
      record {
        long = lit≤ tt;
        passes = λ e. let h = simp and_iff at e in
            carried (enters {q = new_pair s w} h.0.0.0.0.1 (record { holds = h.0.1 }) (record { holds = h.1 }));
      }
  row_legal upcall =
      record {
        long = lit≤ tt;
        passes = λ e. let h = simp (and_iff, join_flows, not_iff) at e in
            carried
            (calls {ticks = 2} {e = s.control.clock + 2 + Ra s w}
            (record {
              outside = h.0.0.0.0;
              valid = h.0.0.0.1.0.0.1;
              pc = record { holds = h.0.0.1.0 };
              timing = record { holds = h.0.0.1.1 };
              early = omega arith;
              late = omega (arith, reads (a_field w));
            }));
      }
  row_legal end_upcall = record { long = lit≤ tt; passes = λ e. ended e }
  row_legal gate_call =
      record {
        long = lit≤ tt;
        passes = λ e. let h = simp and_iff at e in
            carried
            (gates {g = gate s w}
            (record {
              number = Rb s w;
              below = ltb-true _ _ h.0.0.0.1;
              listed = refl;
              empty = h.0.0.0.0;
              valid = ready.fit.fixed.pairs (Rb s w) (ltb-true _ _ h.0.0.0.1);
              pc = record { holds = h.0.0.1 };
              timing = record { holds = h.0.1 };
            }));
      }
  row_legal gate_return =
      record {
        long = lit≤ tt;
        passes = λ e. let h = simp (and_iff, join_flows, flows_meet) at e in
            carried (returns h.0 (record { holds = h.1.0.0 }));
      }
  row_legal halt = record { long = lit≤ tt; passes = λ e. carried (stops ((not_iff _).0 e)) }

-- ---- the decision

-- What a step does in the state s, and what that tells.
pub data Legal (s : State) : Decision → Type 0 where
  rests : running s ≡ false → Legal s rest
  spends : running s ≡ true → (in_upcall s.control ≡ true → s.control.clock ≤ end_tick s → s.fixed.limit ≤ end_tick s) → Legal s spend
  stalls : {why : ℕ} → running s ≡ true → in_upcall s.control ≡ false → 1 ≤ why → why ≤ 3 → Legal s (stall why)
  closes : {cause : ℕ} → running s ≡ true → in_upcall s.control ≡ true → cause ≤ 3 → end_tick s < s.fixed.limit
      → Legal s (close cause)
  carries : {ticks : ℕ} {c : Change} → running s ≡ true → 1 ≤ ticks → s.control.clock + ticks ≤ s.fixed.limit
      → (in_upcall s.control ≡ true → s.control.clock + ticks ≤ end_tick s) → LegalChange s ticks c → Legal s (carry ticks c)

-- What would happen, were it not for the limit.
data Planned (s : State) : Decision → Type 0 where
  stalls : {why : ℕ} → in_upcall s.control ≡ false → 1 ≤ why → why ≤ 3 → Planned s (stall why)
  closes : {cause : ℕ} → in_upcall s.control ≡ true → cause ≤ 3 → Planned s (close cause)
  carries : {ticks : ℕ} {c : Change} → 1 ≤ ticks
      → (in_upcall s.control ≡ true → s.control.clock + ticks ≤ end_tick s) → LegalChange s ticks c → Planned s (carry ticks c)

-- The same before the end tick is looked at.
data Attempted (s : State) : Decision → Type 0 where
  closes : {cause : ℕ} → in_upcall s.control ≡ true → cause ≤ 3 → Attempted s (close cause)
  carries : {ticks : ℕ} {c : Change} → 1 ≤ ticks → LegalChange s ticks c → Attempted s (carry ticks c)

module _ (s : State) (ready : Ready s) where
  -- An op that passes its check.
  passes : {ticks : ℕ} {e : Effect} → 1 ≤ ticks → LegalEffect s ticks e → Attempted s (passed ticks e)
  passes long (carried h) = carries long h
  passes long (ended h) = closes h (lit≤ tt)

  -- An op tried.
  attempted : (r : Row) → LegalRow s r → Attempted s (attempt s r)
  unfolding attempt
  attempted r h =
      choice (Attempted s) r.check _ _
      (λ e. passes h.long (h.passes e))
      (λ e. choice (Attempted s) (r.strict && in_upcall s.control) _ _
      (λ k. let h = simp and_iff at k in closes h.1 (lit≤ tt))
      (λ k. carries (omega (arith, h.long)) (writes keeps)))

  -- An op tried in time.
  timed : {d : Decision} → Attempted s d → Planned s (in_time s d)
  timed (closes h k) = closes h k
  timed (carries {ticks} {c} long h) =
      choice (Planned s) (in_upcall s.control && ltb (end_tick s) (s.control.clock + ticks)) _ _
      (λ e. let h = simp and_iff at e in closes h.0 (lit≤ tt))
      (λ e. carries long (λ u. ltb-false _ _ (rw u at e)) h)

  -- A failed fetch.
  faulted : (why : ℕ) → 1 ≤ why → why ≤ 3 → Planned s (fault s why)
  unfolding fault
  faulted why l u =
      choice (Planned s) (in_upcall s.control) _ _
      (λ e. closes e (lit≤ tt))
      (λ e. choice (Planned s) (eqb s.control.pc s.fixed.errorpc) _ _
      (λ k. stalls e l u)
      (λ k. carries (lit≤ tt) (λ n. clash n e) goes))

  -- The op of a fetched word.
  decoded : (w : ℕ) (op : Option Op) → Planned s (plan s (known w op))
  decoded w none = faulted 3 (lit≤ tt) (lit≤ tt)
  decoded w (some op) = timed (attempted _ (row_legal s ready w op))

  -- What would happen.
  planned : Planned s (plan s (fetch s))
  unfolding fetch
  planned =
      choice (λ f. Planned s (plan s f)) (ltb s.control.pc s.fixed.size) _ _
      (λ e. choice (λ f. Planned s (plan s f)) (fetch_allowed s) _ _
      (λ k. decoded (value_at s (word s.control.pc)) (decode (op_field (value_at s (word s.control.pc)))))
      (λ k. faulted 2 (lit≤ tt) (lit≤ tt)))
      (λ e. faulted 1 (lit≤ tt) (lit≤ tt))

  -- In an upcall nothing would finish past the end tick + 1.
  by_the_end : {d : Decision} → Planned s d → in_upcall s.control ≡ true → s.control.clock ≤ end_tick s
      → finish s d ≤ end_tick s + 1
  unfolding finish
  by_the_end (stalls u l h) v k = clash v u
  by_the_end (closes u h) v k = omega arith
  by_the_end (carries long t h) v k = let m = t v in omega arith

  -- The limit bars only what would finish beyond it, and everything at clock = limit.
  spent : {d : Decision} → Planned s d
      → beyond_limit s d ≡ true
      → in_upcall s.control ≡ true → s.control.clock ≤ end_tick s → s.fixed.limit ≤ end_tick s
  unfolding beyond_limit
  spent {d} h e u k =
      let b = by_the_end h u k in
      let o = below_or_equal s.fixed.limit _ s.control.clock _ e in ⊎_elim (λ a. omega arith) (λ a. omega arith) o

  -- A decision that the limit allows.
  bounded : {d : Decision} → running s ≡ true → Planned s d
      → beyond_limit s d ≡ false → Legal s d
  unfolding finish beyond_limit
  bounded r (stalls u l h) e = stalls r u l h
  bounded r (closes u h) e =
      let k = simp or_iff at e in
      closes r u h (omega (arith, ltb-false s.fixed.limit (end_tick s + 1) k.0))
  bounded r (carries long t h) e = let k = simp or_iff at e in carries r long (ltb-false _ _ k.0) t h

  -- What a step does is legal.
  pub legal : Legal s (decide s)
  unfolding decide in_limit
  legal =
      choice (Legal s) (running s) _ _
      (λ r. choice (Legal s) (beyond_limit s (plan s (fetch s))) _ _
      (λ e. spends r (spent planned e))
      (λ e. bounded r planned e))
      rests
