-- One step each of two states that are alike, with one control and its labels within sight: what decides a step's length
-- or its change of control is within sight, and what decides a write to a location within sight is too. So both decide the
-- same but for hidden writes. This is so of any down-set of labels in sight.
-- Assumes nothing.
use Prim.Native.Nat.{ℕ, ◌+◌, ◌<◌, ◌/◌, ◌%◌, ◌^◌}
use mathlib.Core.Path.{◌≡◌, refl, sym, ap, ◌∙◌, subst}
use mathlib.Core.Logic.{⊎_elim}
use mathlib.Core.Bool.{Bool, true, false, ◌&&◌, cond}
use native.Mathlib.Nat.{mod-lt}
use lib.Dec.{ltb, eqb, lit<}
use lib.Pow.{shr_lt}
use lib.ListN.{get_or}
use borrow.Author.Tests.{ltb-true, eq-eqb}
use Rattle.labels.specs.Label.{flows}
use Rattle.principals.proofs.Laws.{join_flows}
use Rattle.model.specs.declared.Control.{Control}
use Rattle.model.specs.Record.{State, Location, register, word, value_at, label_at, in_upcall}
use Rattle.model.specs.Word.{Arithmetic, add, subtract, and, or, xor, less, multiply, divide, remainder, Op, immediate, arithmetic, load, store, branch, jump, read_clock, set_label, set_pair, upcall, end_upcall, gate_call, gate_return, halt, a_field, b_field, c_field, d_field, n_field, decode, op_field}
use Rattle.model.specs.WellFormed.{no_gate}
use Rattle.model.specs.Ops.{Write, nothing, value, label, write, goto, enter, open_upcall, open_gate, close_gate, stop, Effect, does, ends, Row, row, new_pair_allowed, may_upcall, may_call_gate, may_return, multiply_count, multiply_ticks, arithmetic_ticks, Rb, Rc, visible, gate, table}
use Rattle.model.specs.Step.{Fetched, failed, fetched, known, fetch_allowed, fetch, Decision, rest, spend, stall, close, carry, end_tick, finish, fault, attempt, in_time, plan, beyond_limit, in_limit, running, decide, cause_allowed, cause_write, write_of, written, with_control, changed, control_after, apply, step}
use Rattle.model.specs.Seen.{exists, SameSetting}
use Rattle.model.proofs.Division.{division_ticks}
use Rattle.model.proofs.Truth.{either, clash, and_iff, same_choice}
use Rattle.model.proofs.Writes.{same}
use Rattle.model.proofs.Ready.{Ready}
use Rattle.model.proofs.Legal.{Inside}
use Rattle.model.proofs.Step.{there}
use Rattle.model.proofs.Sight as sight
use Rattle.model.proofs.Sight.{Alike, alike_sym, alike_trans, inside_exists, seen_equal, DownSet, within_down, flows_equal, flows_alike, Visible, Hidden, Fits, own_label, hidden_write, visible_write}

-- ---- registers that a word names

-- The register numbers of a word are below 16.
pub a_exists : (s : State) (w : ℕ) → exists s (register (a_field w)) ≡ true
unfolding a_field
a_exists s w = inside_exists s (register (w / 2 ^ 20 % 2 ^ 4)) (mod-lt _ (lit< tt))

pub b_exists : (s : State) (w : ℕ) → exists s (register (b_field w)) ≡ true
unfolding b_field
b_exists s w = inside_exists s (register (w / 2 ^ 16 % 2 ^ 4)) (mod-lt _ (lit< tt))

c_exists : (s : State) (w : ℕ) → exists s (register (c_field w)) ≡ true
unfolding c_field n_field
c_exists s w = inside_exists s (register (w % 2 ^ 16 / 2 ^ 12)) (shr_lt 4 12 (mod-lt w (lit< tt)))

d_exists : (s : State) (w : ℕ) → exists s (register (d_field w)) ≡ true
unfolding d_field
d_exists s w = inside_exists s (register (n_field w / 2 ^ 8 % 2 ^ 4)) (mod-lt _ (lit< tt))

-- ---- two states with one control

-- Equal settings go both ways.
pub setting_sym : {s t : State} → SameSetting s t → SameSetting t s
setting_sym {s} {t} e =
    record {
      size = sym e.size;
      limit = sym e.limit;
      errorpc = sym e.errorpc;
      count = sym e.count;
      gates = λ k h. let count : t.fixed.count ≡ s.fixed.count = sym e.count in sym (e.gates k (subst (λ (n : ℕ). k < n) count h));
    }

-- Two states under one control whose pc label is in a down-set, of equal setting and alike to one who sees that.
pub record Together (sees : ℕ → Bool) (c : Control) (a b : State) : Type 0 where
  pub down : DownSet sees
  pub pc : sees c.pair.pc ≡ true
  pub setting : SameSetting a b
  pub alike : Alike sees (with_control a c) (with_control b c)

together_sym : {sees : ℕ → Bool} {c : Control} {a b : State} → Together sees c a b → Together sees c b a
together_sym h = record { down = h.down; pc = h.pc; setting = setting_sym h.setting; alike = alike_sym h.alike }

-- What a row would write is to be seen: a write to a location within sight. Of other changes nothing is asked.
abbrev pub Shows : (ℕ → Bool) → State → Effect → Type 0
Shows sees s (does (write x)) = Visible sees s x
Shows sees s (does (goto k)) = Unit {0}
Shows sees s (does (enter q)) = Unit {0}
Shows sees s (does (open_upcall k q e)) = Unit {0}
Shows sees s (does (open_gate g)) = Unit {0}
Shows sees s (does close_gate) = Unit {0}
Shows sees s (does stop) = Unit {0}
Shows sees s ends = Unit {0}

module _ {sees : ℕ → Bool} {c : Control} {a b : State} (h : Together sees c a b) (w : ℕ) where
  -- The two states.
  abbrev one : State
  one = with_control a c

  abbrev two : State
  two = with_control b c

  -- Of a register whose label flows to one within sight, label and value are equal.
  equal : {m : ℕ} → sees m ≡ true → (x : Location) → exists one x ≡ true → flows (label_at one x) m ≡ true
      → (label_at one x ≡ label_at two x) × (value_at one x ≡ value_at two x)
  equal k x e f = flows_equal h.down h.alike k x e f

  -- A row whose check passes, and which shows what it writes, is the same in both.
  pub row_equal : (op : Op) → (table one w op).check ≡ true → Shows sees one (table one w op).effect → table one w op ≡ table two w op
  unfolding table new_pair_allowed may_upcall may_call_gate may_return
  row_equal immediate e (sight.sets v) = rw (seen_equal h.alike (register (a_field w)) (a_exists one w) v).0
  row_equal (arithmetic f) e (sight.sets v) =
      let k = simp (and_iff, join_flows) at e in
      let la = seen_equal h.alike (register (a_field w)) (a_exists one w) v in
      let lb = equal v (register (b_field w)) (b_exists one w) k.0.0.1 in
      let lc = equal v (register (c_field w)) (c_exists one w) k.0.1 in
      rw (la.0, lb.0, lb.1, lc.0, lc.1)
  row_equal load e (sight.sets v) =
      let k = simp (and_iff, join_flows) at e in
      let la = seen_equal h.alike (register (a_field w)) (a_exists one w) v in
      let lb = equal v (register (b_field w)) (b_exists one w) k.0.1.0.1 in
      let lw = equal v (word (Rb one w)) (unfold exists in k.0.0) k.0.1.1 in
      let size : a.fixed.size ≡ b.fixed.size = h.setting.size in
      rw (la.0, lw.0, lw.1, lb.0, lb.1, size)
  row_equal store e (sight.sets v) =
      let k = simp (and_iff, join_flows) at e in
      let lw = seen_equal h.alike (word (Rb one w)) (unfold exists in k.0) v in
      let la = equal v (register (a_field w)) (a_exists one w) k.1.1 in
      let lb = equal v (register (b_field w)) (b_exists one w) k.1.0.1 in
      let size : a.fixed.size ≡ b.fixed.size = h.setting.size in
      rw (lw.0, la.0, la.1, lb.0, lb.1, size)
  row_equal (branch f) e v =
      let k = simp (and_iff, join_flows) at e in
      let la = equal h.pc (register (a_field w)) (a_exists one w) k.0 in
      let lb = equal h.pc (register (b_field w)) (b_exists one w) k.1 in
      rw (la.0, la.1, lb.0, lb.1)
  row_equal jump e v =
      let lb = equal h.pc (register (b_field w)) (b_exists one w) e in rw (lb.0, lb.1)
  row_equal read_clock e (sight.sets v) = rw (seen_equal h.alike (register (a_field w)) (a_exists one w) v).0
  row_equal (set_label f) e (sight.marks v) =
      let k = simp and_iff at e in
      let la = seen_equal h.alike (register (a_field w)) (a_exists one w) v in
      let lb = equal h.pc (register (b_field w)) (b_exists one w) k.0.1 in
      rw (la.0, lb.0, lb.1)
  row_equal set_pair e v =
      let k = simp and_iff at e in
      let lb = equal h.pc (register (b_field w)) (b_exists one w) k.0.0.0.1 in
      let lc = equal h.pc (register (c_field w)) (c_exists one w) k.0.0.1 in
      rw (lb.0, lb.1, lc.0, lc.1)
  row_equal upcall e v =
      let k = simp and_iff at e in
      let la = equal h.pc (register (a_field w)) (a_exists one w) k.0.1 in
      let lb = equal h.pc (register (b_field w)) (b_exists one w) k.0.0.0.1.0.1 in
      let lc = equal h.pc (register (c_field w)) (c_exists one w) k.0.0.0.1.1 in
      let ld = equal h.pc (register (d_field w)) (d_exists one w) k.1 in
      rw (la.0, la.1, lb.0, lb.1, lc.0, lc.1, ld.0, ld.1)
  row_equal end_upcall e v = refl
  row_equal gate_call e v =
      let k = simp and_iff at e in
      let lb = equal h.pc (register (b_field w)) (b_exists one w) k.1 in
      let lg : gate one w ≡ get_or b.fixed.gates (Rb one w) no_gate =
      h.setting.gates (Rb one w) (ltb-true _ _ k.0.0.0.1) in
      let count : a.fixed.count ≡ b.fixed.count = h.setting.count in rw (lg, lb.0, lb.1, count)
  row_equal gate_return e v = refl
  row_equal halt e v = refl

-- ---- decisions, but for what they write

-- The decision without what it writes.
abbrev pub bare : Decision → Decision
bare rest = rest
bare spend = spend
bare (stall why) = stall why
bare (close cause) = close cause
bare (carry ticks (write x)) = carry ticks (write nothing)
bare (carry ticks (goto k)) = carry ticks (goto k)
bare (carry ticks (enter q)) = carry ticks (enter q)
bare (carry ticks (open_upcall k q e)) = carry ticks (open_upcall k q e)
bare (carry ticks (open_gate g)) = carry ticks (open_gate g)
bare (carry ticks close_gate) = carry ticks close_gate
bare (carry ticks stop) = carry ticks stop

-- An op would finish past the end tick of its upcall.
abbrev pub late : State → Decision → Bool
late s rest = false
late s spend = false
late s (stall why) = false
late s (close cause) = false
late s (carry ticks change) = in_upcall s.control && ltb (end_tick s) (s.control.clock + ticks)

-- In time is: closed with cause 2 where it is late.
pub in_time_late : (s : State) (d : Decision) → in_time s d ≡ cond (late s d) (close 2) d
in_time_late s rest = refl
in_time_late s spend = refl
in_time_late s (stall why) = refl
in_time_late s (close cause) = refl
in_time_late s (carry ticks change) = refl

-- When a decision would finish, whether it is late and what control it leaves does not go by what it writes.
bare_same : (s : State) (d : Decision)
    → (finish s (bare d) ≡ finish s d) × (late s (bare d) ≡ late s d) × (control_after s (bare d) ≡ control_after s d)
unfolding finish control_after changed
bare_same s rest = (refl, refl, refl)
bare_same s spend = (refl, refl, refl)
bare_same s (stall why) = (refl, refl, refl)
bare_same s (close cause) = (refl, refl, refl)
bare_same s (carry ticks (write x)) = (refl, refl, refl)
bare_same s (carry ticks (goto k)) = (refl, refl, refl)
bare_same s (carry ticks (enter q)) = (refl, refl, refl)
bare_same s (carry ticks (open_upcall k q e)) = (refl, refl, refl)
bare_same s (carry ticks (open_gate g)) = (refl, refl, refl)
bare_same s (carry ticks close_gate) = (refl, refl, refl)
bare_same s (carry ticks stop) = (refl, refl, refl)

-- Under one control and limit two states read the same of a decision.
pub one_control : (c : Control) (a b : State) → a.fixed.limit ≡ b.fixed.limit → (d : Decision)
    → (finish (with_control a c) d ≡ finish (with_control b c) d) × (late (with_control a c) d ≡ late (with_control b c) d)
    × (control_after (with_control a c) d ≡ control_after (with_control b c) d)
unfolding finish control_after end_tick
one_control c a b e rest = (refl, refl, refl)
one_control c a b e spend = (e, refl, rw e)
one_control c a b e (stall why) = (refl, refl, refl)
one_control c a b e (close cause) = (refl, refl, refl)
one_control c a b e (carry ticks change) = (refl, refl, refl)

-- The two decisions are one but for what they write, and what the one writes within sight the other writes too.
pub record Similar (sees : ℕ → Bool) (s t : State) (d e : Decision) : Type 0 where
  pub bare : bare d ≡ bare e
  pub there : Visible sees s (write_of s d) → write_of t e ≡ write_of s d
  pub back : Visible sees t (write_of t e) → write_of s d ≡ write_of t e

-- Of two choices by one test.
similar_choice : {sees : ℕ → Bool} {s t : State} (b : Bool) {d e f g : Decision} → Similar sees s t d e → Similar sees s t f g
    → Similar sees s t (cond b d f) (cond b e g)
similar_choice true x y = x
similar_choice false x y = y

-- A write that is seen is one.
abbrev Some : Write → Type 0
Some nothing = ⊥
Some (value x v) = Unit {0}
Some (label x l) = Unit {0}

some : {sees : ℕ → Bool} {s : State} {w : Write} → Visible sees s w → Some w
some (sight.sets v) = tt
some (sight.marks v) = tt

module _ {sees : ℕ → Bool} {c : Control} {a b : State} (h : Together sees c a b) where
  -- A cause that is written within sight is written in both.
  cause_there : (k : ℕ) → Visible sees (with_control a c) (cause_write (with_control a c) k)
      → cause_write (with_control b c) k ≡ cause_write (with_control a c) k
  unfolding cause_write cause_allowed
  cause_there k v = go (flows c.pair.timing (label_at (with_control a c) (register 15))) refl v
    where
      go : (x : Bool) → flows c.pair.timing (label_at (with_control a c) (register 15)) ≡ x
          → Visible sees (with_control a c) (cond x (value (register 15) k) nothing)
          → cond (flows c.pair.timing (label_at (with_control b c) (register 15))) (value (register 15) k) nothing
          ≡ cond x (value (register 15) k) nothing
      go true e (sight.sets v) = rw (← (seen_equal h.alike (register 15) (inside_exists _ (register 15) (lit< tt)) v).0, e)
      go false e v = absurd (some v)

  -- What one decision writes within sight in the one state it writes in the other.
  equal_there : (d : Decision) → Visible sees (with_control a c) (write_of (with_control a c) d)
      → write_of (with_control b c) d ≡ write_of (with_control a c) d
  unfolding write_of
  equal_there rest v = refl
  equal_there spend v = refl
  equal_there (stall why) v = refl
  equal_there (close cause) v = cause_there cause v
  equal_there (carry ticks change) v = refl

  -- A row that writes, tried in both: the same write, where the one is seen.
  write_there : (check : Bool) (x : Write) (ticks : ℕ) (r : Row)
      → (check ≡ true → Visible sees (with_control a c) x → row check (does (write x)) ticks ≡ r)
      → Visible sees (with_control a c) (write_of (with_control a c) (attempt (with_control a c) (row check (does (write x)) ticks)))
      → write_of (with_control b c) (attempt (with_control b c) r)
      ≡ write_of (with_control a c) (attempt (with_control a c) (row check (does (write x)) ticks))
  unfolding attempt write_of
  write_there true x ticks r e v = rw (← e refl v)
  write_there false x ticks r e v = absurd (some v)

-- Such a row takes its ticks, whether its check passes or not.
write_bare : (s : State) (check : Bool) (x : Write) (ticks : ℕ)
    → bare (attempt s (row check (does (write x)) ticks)) ≡ carry ticks (write nothing)
unfolding attempt
write_bare s true x ticks = refl
write_bare s false x ticks = refl

-- A row that steers, tried in both: the same decision.
steer_equal : (c : Control) (a b : State) (r q : Row) → r.ticks ≡ q.ticks → r.strict ≡ q.strict
    → (r.check ≡ true → r ≡ q) → (q.check ≡ true → q ≡ r)
    → attempt (with_control a c) r ≡ attempt (with_control b c) q
unfolding attempt
steer_equal c a b r q t s f g =
    ⊎_elim
    (λ (e : r.check ≡ true). rw (← f e))
    (λ (e : r.check ≡ false).
    ⊎_elim
    (λ (k : q.check ≡ true). clash (ap (λ (x : Row). x.check) (sym (g k)) ∙ k) e)
    (λ (k : q.check ≡ false). rw (e, k, t, s))
    (either q.check))
    (either r.check)

module _ {sees : ℕ → Bool} {c : Control} {a b : State} (h : Together sees c a b) where
  -- One decision taken in both.
  similar_equal : (d : Decision) → Similar sees (with_control a c) (with_control b c) d d
  similar_equal d = record { bare = refl; there = equal_there h d; back = equal_there (together_sym h) d }

  -- Two decisions that are equal.
  similar_path : {d e : Decision} → d ≡ e → Similar sees (with_control a c) (with_control b c) d e
  similar_path {d} p = subst (Similar sees (with_control a c) (with_control b c) d) p (similar_equal d)

  -- Two rows that write.
  similar_write : (check check' : Bool) (x x' : Write) (ticks ticks' : ℕ) → ticks ≡ ticks'
      → (check ≡ true → Visible sees (with_control a c) x → row check (does (write x)) ticks ≡ row check' (does (write x')) ticks')
      → (check' ≡ true → Visible sees (with_control b c) x' → row check' (does (write x')) ticks' ≡ row check (does (write x)) ticks)
      → Similar sees (with_control a c) (with_control b c)
      (attempt (with_control a c) (row check (does (write x)) ticks)) (attempt (with_control b c) (row check' (does (write x')) ticks'))
  similar_write check check' x x' ticks ticks' t f g =
      record {
        bare =
            write_bare (with_control a c) check x ticks ∙ ap (λ (k : ℕ). carry k (write nothing)) t
            ∙ sym (write_bare (with_control b c) check' x' ticks');
        there = write_there h check x ticks (row check' (does (write x')) ticks') f;
        back = write_there (together_sym h) check' x' ticks' (row check (does (write x)) ticks) g;
      }

  -- The count that times op 8: what decides it flows to t.
  multiply_same : (v v' : Bool) (x x' : ℕ) → v ≡ v' → (v ≡ true → x ≡ x') → multiply_count v x ≡ multiply_count v' x'
  unfolding multiply_count
  multiply_same true v' x x' e f = rw (← e, f refl)
  multiply_same false v' x x' e f = ap (λ (b : Bool). multiply_count b x') e

  -- The ticks of the arithmetic ops.
  ticks_same : (f : Arithmetic) (v v' : Bool) (x x' : ℕ) → v ≡ v' → (v ≡ true → x ≡ x')
      → arithmetic_ticks f v x ≡ arithmetic_ticks f v' x'
  ticks_same add v v' x x' e g = refl
  ticks_same subtract v v' x x' e g = refl
  ticks_same and v v' x x' e g = refl
  ticks_same or v v' x x' e g = refl
  ticks_same xor v v' x x' e g = refl
  ticks_same less v v' x x' e g = refl
  ticks_same multiply v v' x x' e g = ap multiply_ticks (multiply_same v v' x x' e g)
  ticks_same divide v v' x x' e g = (division_ticks v x).0 ∙ sym (division_ticks v' x').0
  ticks_same remainder v v' x x' e g = (division_ticks v x).1 ∙ sym (division_ticks v' x').1

  -- Rows that are one where their check passes and they show, the other way round.
  row_back : (w : ℕ) (op : Op) → (table (with_control b c) w op).check ≡ true → Shows sees (with_control b c) (table (with_control b c) w op).effect
      → table (with_control b c) w op ≡ table (with_control a c) w op
  row_back w op = row_equal (together_sym h) w op

  -- An op that writes nothing, tried in both.
  steers : (w : ℕ) (op : Op) → (table (with_control a c) w op).ticks ≡ (table (with_control b c) w op).ticks
      → (table (with_control a c) w op).strict ≡ (table (with_control b c) w op).strict
      → Shows sees (with_control a c) (table (with_control a c) w op).effect
      → Shows sees (with_control b c) (table (with_control b c) w op).effect
      → Similar sees (with_control a c) (with_control b c)
      (attempt (with_control a c) (table (with_control a c) w op)) (attempt (with_control b c) (table (with_control b c) w op))
  steers w op t s x y =
      similar_path (steer_equal c a b _ _ t s (λ e. row_equal h w op e x) (λ e. row_back w op e y))

  -- The fetch is the same in both.
  pub fetch_same : fetch (with_control a c) ≡ fetch (with_control b c)
  unfolding fetch
  fetch_same =
      same_choice (ltb c.pc a.fixed.size) (ltb c.pc b.fixed.size) _ _ _
      (λ e. let x : exists (with_control a c) (word c.pc) ≡ true = unfold exists in e in
      same_choice (fetch_allowed (with_control a c)) (fetch_allowed (with_control b c)) _ _ _
      (λ k. ap (λ (w : ℕ). known w (decode (op_field w))) (flows_equal h.down h.alike h.pc (word c.pc) x k).1)
      (flows_alike h.down h.alike h.pc (word c.pc) x))
      (let size : a.fixed.size ≡ b.fixed.size = h.setting.size in ap (ltb c.pc) size)

  -- A failed fetch does the same in both.
  fault_same : (why : ℕ) → fault (with_control a c) why ≡ fault (with_control b c) why
  unfolding fault
  fault_same why = let errorpc : a.fixed.errorpc ≡ b.fixed.errorpc = h.setting.errorpc in rw errorpc

  -- The end tick bars the same in both.
  time_similar : {d e : Decision} → Similar sees (with_control a c) (with_control b c) d e
      → Similar sees (with_control a c) (with_control b c) (in_time (with_control a c) d) (in_time (with_control b c) e)
  time_similar {d} {e} s =
      let same : late (with_control a c) d ≡ late (with_control b c) e =
      sym (bare_same (with_control a c) d).1 ∙ ap (late (with_control a c)) s.bare
      ∙ (one_control c a b h.setting.limit (bare e)).1 ∙ (bare_same (with_control b c) e).1 in
      rw (in_time_late (with_control a c) d, in_time_late (with_control b c) e, same)
      (similar_choice (late (with_control b c) e) (similar_equal (close 2)) s)

  -- What would finish at one clock is beyond the limit in both or in neither.
  bars : (d e : Decision) → finish (with_control a c) d ≡ finish (with_control b c) e
      → beyond_limit (with_control a c) d ≡ beyond_limit (with_control b c) e
  unfolding beyond_limit
  bars d e same = rw (same, h.setting.limit)

  -- The limit bars the same in both.
  limit_similar : {d e : Decision} → Similar sees (with_control a c) (with_control b c) d e
      → Similar sees (with_control a c) (with_control b c) (in_limit (with_control a c) d) (in_limit (with_control b c) e)
  unfolding in_limit
  limit_similar {d} {e} s =
      let same : finish (with_control a c) d ≡ finish (with_control b c) e =
      sym (bare_same (with_control a c) d).0 ∙ ap (finish (with_control a c)) s.bare
      ∙ (one_control c a b h.setting.limit (bare e)).0 ∙ (bare_same (with_control b c) e).0 in
      rw (bars d e same) (similar_choice (beyond_limit (with_control b c) e) (similar_equal spend) s)

  -- The timing label is within sight too: the arithmetic ops alone ask for that.
  module _ (timing : sees c.pair.timing ≡ true) where
    -- Whether the operands may show in the time is the same in both.
    visible_same : (w : ℕ) → visible (with_control a c) w ≡ visible (with_control b c) w
    visible_same w =
        cc (
          flows_alike h.down h.alike timing (register (b_field w)) (b_exists (with_control a c) w),
          flows_alike h.down h.alike timing (register (c_field w)) (c_exists (with_control a c) w),
        )

    -- Where they may, the second one is the same.
    visible_equal : (w : ℕ) → visible (with_control a c) w ≡ true → Rc (with_control a c) w ≡ Rc (with_control b c) w
    visible_equal w e =
        let k = simp and_iff at e in
        (flows_equal h.down h.alike timing (register (c_field w)) (c_exists (with_control a c) w) k.1).1

    -- Every op, tried in both.
    row_similar : (w : ℕ) (op : Op) → Similar sees (with_control a c) (with_control b c)
        (attempt (with_control a c) (table (with_control a c) w op)) (attempt (with_control b c) (table (with_control b c) w op))
    unfolding table
    row_similar w immediate = similar_write _ _ _ _ _ _ refl (row_equal h w immediate) (row_back w immediate)
    row_similar w (arithmetic f) =
        similar_write _ _ _ _ _ _ (ticks_same f _ _ _ _ (visible_same w) (visible_equal w)) (row_equal h w (arithmetic f))
        (row_back w (arithmetic f))
    row_similar w load = similar_write _ _ _ _ _ _ refl (row_equal h w load) (row_back w load)
    row_similar w store = similar_write _ _ _ _ _ _ refl (row_equal h w store) (row_back w store)
    row_similar w (branch f) = steers w (branch f) refl refl tt tt
    row_similar w jump = steers w jump refl refl tt tt
    row_similar w read_clock = similar_write _ _ _ _ _ _ refl (row_equal h w read_clock) (row_back w read_clock)
    row_similar w (set_label f) = similar_write _ _ _ _ _ _ refl (row_equal h w (set_label f)) (row_back w (set_label f))
    row_similar w set_pair = steers w set_pair refl refl tt tt
    row_similar w upcall = steers w upcall refl refl tt tt
    row_similar w end_upcall = steers w end_upcall refl refl tt tt
    row_similar w gate_call = steers w gate_call refl refl tt tt
    row_similar w gate_return = steers w gate_return refl refl tt tt
    row_similar w halt = steers w halt refl refl tt tt

    -- What would happen.
    plan_similar : (f : Fetched) → Similar sees (with_control a c) (with_control b c) (plan (with_control a c) f) (plan (with_control b c) f)
    plan_similar (failed why) = similar_path (fault_same why)
    plan_similar (fetched w op) = time_similar (row_similar w op)

    -- What a step does.
    pub decide_similar : Similar sees (with_control a c) (with_control b c) (decide (with_control a c)) (decide (with_control b c))
    unfolding decide running
    decide_similar =
        similar_choice (eqb c.end 0)
        (limit_similar (rw fetch_same (plan_similar (fetch (with_control b c)))))
        (similar_equal rest)

    -- Both steps leave one control.
    pub control_same : control_after (with_control a c) (decide (with_control a c)) ≡ control_after (with_control b c) (decide (with_control b c))
    control_same =
        let d = decide (with_control a c) in
        let e = decide (with_control b c) in
        sym (bare_same (with_control a c) d).2 ∙ ap (control_after (with_control a c)) decide_similar.bare
        ∙ (one_control c a b h.setting.limit (bare e)).2 ∙ (bare_same (with_control b c) e).2

-- ---- the step

-- Labels and values after a step are those after its write: neither goes by the control.
pub step_leaves : (s : State) (x : Location)
    → (label_at (step s) x ≡ label_at (written s (write_of s (decide s))) x)
    × (value_at (step s) x ≡ value_at (written s (write_of s (decide s))) x)
unfolding step apply label_at value_at
step_leaves s (register k) = (refl, refl)
step_leaves s (word k) = (refl, refl)

-- A location is one with itself.
same_self : (x : Location) → same x x ≡ true
same_self (register k) = eq-eqb k k refl
same_self (word k) = eq-eqb k k refl

-- A label that is set stands there after the step.
pub label_set : (s : State) (x : Location) (l : ℕ) → Ready s → Inside s x → write_of s (decide s) ≡ label x l → label_at (step s) x ≡ l
label_set s x l r i e =
    (step_leaves s x).0 ∙ ap (λ (w : Write). label_at (written s w) x) e ∙ own_label s x x l (there s r x i) (same_self x)
