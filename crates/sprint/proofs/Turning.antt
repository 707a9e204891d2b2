-- Laws about a turn of the hot loop: when a step of the model is the change that a common op carries out, and what
-- holds where the op would finish past the deadline.
-- Assumes nothing.
use Rattle.std.proofs.Common.{◌≡◌, ℕ, ◌+◌, ◌-◌, ◌%◌, ◌^◌, ◌<◌, ◌≤◌, Bool, true, false, cond, not, ◌&&◌, ltb, List, get_or, set, sym, refl, ap, ◌∙◌, subst, arith, ltb-false, ltb-true, le-ltb, eq-eqb, ne_eqb}
use lib.Bits.{bit_or}
use Rattle.principals.specs.Principals.{may_go}
use Rattle.labels.specs.Label.{label_count, restrictions, lacking}
use Rattle.model.specs.Numbers.{register_count, by_failure}
use Rattle.model.specs.Record.{State, register, word, value_at, label_at, in_upcall}
use Rattle.model.specs.Word.{Arithmetic, Comparison, Op, immediate, arithmetic, load, store, branch, jump, read_clock, a_field, b_field, c_field, n_field}
use Rattle.model.specs.Ops.{writable, holds, Write, nothing, value, Change, write, goto, does, Row, row, strict_row, table}
use Rattle.model.specs.Step.{close, carry, fetch, fetched, end_tick, finish, attempt, in_time, plan, beyond_limit, in_limit, running, decide, written, write_of, changed, control_after, apply, step}
use Rattle.model.proofs.Legal.{ticks_long}
use Rattle.parts.specs.declared.stages.Reason.{Reason}
use Rattle.parts.specs.declared.stages.Reason.TheVariants.{Late, Failed}
use Rattle.parts.specs.Calls.{deadline_of}
use Rattle.parts.specs.Stages.{is_common_op, fetches_common}
use Rattle.turns.specs.declared.Context.{Context}
use Rattle.turns.specs.declared.Spot.{Spot}
use Rattle.turns.specs.declared.Turn.{Turn}
use Rattle.turns.specs.declared.Turn.TheVariants.{Going, Stopping}
use Rattle.turns.specs.Turned.{Mirrors}
use Rattle.turns.specs.Turns.{next, timed, gone, taken, assigned, immediate_taken, combined_taken}
use Rattle.turns.proofs.Assigning.{assigned_is, assigned_turn}
use Rattle.turns.proofs.Checks.{Holds, Lacks, one_goes, both_go, two_go, three_go, three_go_right}
use Rattle.turns.proofs.Fields.{a_below, b_below, c_below}
use Rattle.sprint.specs.Skim.{is_common}
use Rattle.sprint.specs.Sprint.{state_with, Timed, Stopped}
use Rattle.sprint.specs.Inner.Turns.{LoadTurn, StoreTurn, ClockTurn, moving, Did}

-- ---- truth values

-- Both branches alike: the choice does not matter.
cond_same {ℓ} : {A : Type ℓ} (b : Bool) (x : A) → cond b x x ≡ x
cond_same true x = refl
cond_same false x = refl

-- What is kept either way.
kept {ℓ} : {A : Type ℓ} (b : Bool) {x y : A} → y ≡ x → y ≡ cond b x x
kept b {x} e = e ∙ sym (cond_same b x)

-- ---- the deadline

-- The deadline is at most the limit.
due_limit : (up : Bool) (e limit : ℕ) → deadline_of up e limit ≤ limit
due_limit false e limit = omega arith
due_limit true e limit = go (ltb e limit) refl
  where
    go : (b : Bool) → ltb e limit ≡ b → cond b e limit ≤ limit
    go true h = omega (arith, ltb-true e limit h)
    go false h = omega arith

-- In an upcall the deadline is at most the end tick.
due_tick : (e limit : ℕ) → deadline_of true e limit ≤ e
due_tick e limit = go (ltb e limit) refl
  where
    go : (b : Bool) → ltb e limit ≡ b → cond b e limit ≤ e
    go true h = omega arith
    go false h = omega (arith, ltb-false e limit h)

-- The loop is told the truth of the state, with so many ticks left to the deadline.
pub record Due (s : State) (context : Context) (left : ℕ) : Type 0 where
  pub timed : Timed s context
  pub clock : s.control.clock + left ≡ context.deadline + 1

-- In such a state.
module _ {s : State} {context : Context} {left : ℕ} (h : Due s context left) where
  -- A running state decides by its plan.
  decides : decide s ≡ in_limit s (plan s (fetch s))
  unfolding decide running
  decides = rw (eq-eqb s.control.end 0 h.timed.running)

  module _ (k : ℕ) (change : Change) where
    -- An op that finishes by the deadline is in time for an upcall.
    in_time_lem : s.control.clock + k ≤ context.deadline → in_time s (carry k change) ≡ carry k change
    in_time_lem d = go context.up h.timed.upcall h.timed.due
      where
        go : (b : Bool) → in_upcall s.control ≡ b → context.deadline ≤ deadline_of b (end_tick s) s.fixed.limit
            → in_time s (carry k change) ≡ carry k change
        go false e f = rw e
        go true e f =
            rw (e, le-ltb (end_tick s) (s.control.clock + k) (omega (arith, due_tick (end_tick s) s.fixed.limit, f)))

    -- And for the limit.
    in_limit_lem : 0 < k → s.control.clock + k ≤ context.deadline → in_limit s (carry k change) ≡ carry k change
    unfolding in_limit beyond_limit finish
    in_limit_lem p d =
        rw (
          le-ltb s.fixed.limit (s.control.clock + k) (omega (arith, due_limit context.up (end_tick s) s.fixed.limit, h.timed.due)),
          ne_eqb s.control.clock s.fixed.limit (omega (arith, due_limit context.up (end_tick s) s.fixed.limit, h.timed.due)),
        )

    -- With a common op that has this change in these ticks.
    module _ {w : ℕ} {op : Op} (f : fetch s ≡ fetched w op) (c : is_common_op op ≡ true) (a : attempt s (table s w op) ≡ carry k change) (p : 0 < k) where
      -- By the deadline that is what is done.
      decided : s.control.clock + k ≤ context.deadline → decide s ≡ carry k change
      decided d = rw (decides, f, a, in_time_lem d, in_limit_lem p d)

      -- It is a common op's step.
      common_here : s.control.clock + k ≤ context.deadline → is_common s ≡ true
      unfolding is_common
      common_here d = rw (decided d, f, c)

      -- The step applies it.
      carried : s.control.clock + k ≤ context.deadline → step s ≡ apply s (carry k change)
      unfolding step
      carried d = rw (decided d)

      -- The turn.
      turn : (table s w op).ticks ≡ k → (pc' : ℕ) (values' words' : List ℕ)
          → apply s (carry k change) ≡ moving s pc' k values' words'
          → {r : Turn} {values words : List ℕ} → r ≡ timed k pc' left
          → values ≡ cond (ltb k left) values' s.registers.values
          → words ≡ cond (ltb k left) words' s.memory.values → Did s context.deadline left r values words
      turn t pc' values' words' e er ev ew = rw (er, ev, ew) (go (ltb k left) refl)
        where
          go : (b : Bool) → ltb k left ≡ b
              → Did s context.deadline left (cond b (Going pc' k) (Stopping Late)) (cond b values' s.registers.values)
              (cond b words' s.memory.values)
          go true q =
              let l : k < left = ltb-true k left q in
              let d : s.control.clock + k ≤ context.deadline = omega (arith, l, h.clock) in
              record { common = common_here d; steps = carried d ∙ e; some = p; less = l }
          go false q =
              let l : left ≤ k = ltb-false k left q in
              record {
                reason =
                    record {
                      word = w;
                      op = op;
                      ticks = k;
                      change = change;
                      fetches = f;
                      common = c;
                      tries = a;
                      long = t;
                      some = p;
                      past = omega (arith, l, h.clock);
                    };
                registers = refl;
                memory = refl;
              }

-- ---- the changes of the common ops

-- An op that only writes carries its write out, or where its check fails nothing.
attempt_write : (s : State) (ok : Bool) (x : Write) (k : ℕ)
    → attempt s (row ok (does (write x)) k) ≡ carry k (write (cond ok x nothing))
unfolding attempt
attempt_write s true x k = refl
attempt_write s false x k = refl

-- A register written.
apply_register : (s : State) (ok : Bool) (a v k : ℕ)
    → apply s (carry k (write (cond ok (value (register a) v) nothing)))
    ≡ moving s (s.control.pc + 1) k (cond ok (set s.registers.values a v) s.registers.values) s.memory.values
unfolding apply written write_of control_after changed
apply_register s true a v k = refl
apply_register s false a v k = refl

-- A word written.
apply_word : (s : State) (ok : Bool) (a v k : ℕ)
    → apply s (carry k (write (cond ok (value (word a) v) nothing)))
    ≡ moving s (s.control.pc + 1) k s.registers.values (cond ok (set s.memory.values a v) s.memory.values)
unfolding apply written write_of control_after changed
apply_word s true a v k = refl
apply_word s false a v k = refl

-- On at another pc.
apply_goto : (s : State) (n k : ℕ) → apply s (carry k (goto n)) ≡ moving s n k s.registers.values s.memory.values
unfolding apply written write_of control_after changed
apply_goto s n k = refl

-- Nothing written.
apply_nothing : (s : State) (k : ℕ)
    → apply s (carry k (write nothing)) ≡ moving s (s.control.pc + 1) k s.registers.values s.memory.values
unfolding apply written write_of control_after changed
apply_nothing s k = refl

-- A turn with the op of a row.
module _ {s : State} {context : Context} {left w : ℕ} {op : Op} (h : Due s context left) (f : fetch s ≡ fetched w op) (c : is_common_op op ≡ true) where
  -- A row that sets register a.
  sets_row : (a : ℕ) (ok : Bool) (v k : ℕ) {r : Turn} {values words : List ℕ} → r ≡ timed k (s.control.pc + 1) left
      → values ≡ cond (ltb k left) (cond ok (set s.registers.values a v) s.registers.values) s.registers.values
      → 0 < k → table s w op ≡ row ok (does (write (value (register a) v))) k → words ≡ s.memory.values
      → Did s context.deadline left r values words
  sets_row a ok v k er ev p t ew =
      turn h k (write (cond ok (value (register a) v) nothing)) f c (rw t (attempt_write s ok (value (register a) v) k)) p
      (ap (λ (x : Row). x.ticks) t) (s.control.pc + 1) _ _ (apply_register s ok a v k) er ev (kept (ltb k left) ew)

  -- A row that sets word x.
  stores_row : (x : ℕ) (ok : Bool) (v k : ℕ) {r : Turn} {values words : List ℕ} → r ≡ timed k (s.control.pc + 1) left
      → words ≡ cond (ltb k left) (cond ok (set s.memory.values x v) s.memory.values) s.memory.values
      → 0 < k → table s w op ≡ row ok (does (write (value (word x) v))) k → values ≡ s.registers.values
      → Did s context.deadline left r values words
  stores_row x ok v k er ew p t ev =
      turn h k (write (cond ok (value (word x) v) nothing)) f c (rw t (attempt_write s ok (value (word x) v) k)) p
      (ap (λ (y : Row). y.ticks) t) (s.control.pc + 1) _ _ (apply_word s ok x v k) er (kept (ltb k left) ev) ew

  -- A branch or jump that passes.
  go_taken : {n : ℕ} → table s w op ≡ strict_row true (does (goto n)) 1 → attempt s (table s w op) ≡ carry 1 (goto n)
  unfolding attempt
  go_taken t = rw t

  -- One that fails outside an upcall.
  go_by : {n : ℕ} → table s w op ≡ strict_row false (does (goto n)) 1 → in_upcall s.control ≡ false
      → attempt s (table s w op) ≡ carry 1 (write nothing)
  unfolding attempt
  go_by t e = rw (t, e)

  -- One that fails in an upcall.
  go_failed : {n : ℕ} → table s w op ≡ strict_row false (does (goto n)) 1 → in_upcall s.control ≡ true → plan s (fetch s) ≡ close by_failure
  unfolding attempt
  go_failed t e = rw (f, t, e)

  -- A branch that is taken or not, or a jump.
  goes_row : (ok taken : Bool) (n : ℕ) {r : Turn} {values words : List ℕ}
      → r ≡ cond (ok && taken) (timed 1 n left) (cond (not ok && context.up) (Stopping Failed) (timed 1 (s.control.pc + 1) left))
      → table s w op ≡ strict_row ok (does (goto (cond taken n (s.control.pc + 1)))) 1 → values ≡ s.registers.values
      → words ≡ s.memory.values → Did s context.deadline left r values words
  goes_row ok taken n {r} {values} {words} er t ev ew = go ok taken context.up t h.timed.upcall er
    where
      ticks : {x : Row} → table s w op ≡ x → (table s w op).ticks ≡ x.ticks
      ticks q = ap (λ (y : Row). y.ticks) q

      go : (b d u : Bool) → table s w op ≡ strict_row b (does (goto (cond d n (s.control.pc + 1)))) 1 → in_upcall s.control ≡ u
          → r ≡ cond (b && d) (timed 1 n left) (cond (not b && u) (Stopping Failed) (timed 1 (s.control.pc + 1) left))
          → Did s context.deadline left r values words
      go true true u t e er =
          turn h 1 (goto n) f c (go_taken t) (omega arith) (ticks t) n _ _ (apply_goto s n 1) er (kept (ltb 1 left) ev) (kept (ltb 1 left) ew)
      go true false u t e er =
          turn h 1 (goto (s.control.pc + 1)) f c (go_taken t) (omega arith) (ticks t) (s.control.pc + 1) _ _
          (apply_goto s (s.control.pc + 1) 1) er (kept (ltb 1 left) ev) (kept (ltb 1 left) ew)
      go false d false t e er =
          turn h 1 (write nothing) f c (go_by t e) (omega arith) (ticks t) (s.control.pc + 1) _ _ (apply_nothing s 1) er
          (kept (ltb 1 left) ev) (kept (ltb 1 left) ew)
      go false d true t e er =
          rw (er, ev, ew)
          (record { reason = (go_failed t e, ap fetches_common f ∙ c, e); registers = refl; memory = refl })

-- ---- the common ops, by the numbers of their registers

-- These numbers stand in the word.
pub record Fields (w a b : ℕ) : Type 0 where
  pub ra : a ≡ a_field w
  pub rb : b ≡ b_field w

-- The clock that is told by the ticks left.
pub told_clock : (left deadline : ℕ) → left ≤ deadline + 1 → deadline + 1 - left + left ≡ deadline + 1
told_clock left deadline l = omega (arith, l)

-- The clock as the code computes it from the ticks left.
clock_read : (left deadline : ℕ) {y : ℕ} → left ≤ deadline + 1 → (y + left) % 2 ^ 32 ≡ (deadline + 1) % 2 ^ 32 → y < 2 ^ 32
    → y ≡ (deadline + 1 - left) % 2 ^ 32
clock_read left deadline l e b = omega (arith, l, e, b)

-- The restrictions of a label are its.
under : (x : ℕ) → Holds (restrictions x) x
under x = record { is = refl }

-- And so are those that it lacks.
towards : {x : ℕ} → x < label_count → Lacks (lacking x) x
towards b = record { is = refl; below = b }

-- The loop's view fits the state.
pub record Here (s : State) (spot : Spot) (values labels turned words marks : List ℕ) : Type 0 where
  pub mirrors : Mirrors labels turned
  pub left : spot.left ≤ spot.context.deadline + 1
  pub short : spot.pc + 1 < 2 ^ 32
  pub timed : Timed (state_with s spot.context spot.pc spot.left values labels words marks) spot.context

-- In such a state.
module _ {s : State} {spot : Spot} {values labels turned words marks : List ℕ} (h : Here s spot values labels turned words marks) where
  -- What stays the same.
  abbrev context : Context
  context = spot.context

  -- The state.
  abbrev here : State
  here = state_with s context spot.pc spot.left values labels words marks

  -- Its word.
  abbrev w : ℕ
  w = spot.word

  -- A turn in it.
  abbrev Turns : Turn → List ℕ → List ℕ → Type 0
  Turns = Did here context.deadline spot.left

  -- The loop is told the truth of it.
  due : Due here context spot.left
  due = record { timed = h.timed; clock = told_clock spot.left context.deadline h.left }

  -- The pc behind the word is the state's next.
  onward : next spot ≡ spot.pc + 1
  unfolding next
  onward = omega (arith, h.short)

  -- What register k holds of restrictions.
  held : (k : ℕ) → k < register_count → Holds (get_or turned k 0) (get_or labels k 0)
  held k b = record { is = h.mirrors.held k b }

  -- What it lacks of them.
  lacked : (k : ℕ) → k < register_count → Lacks (get_or turned (k + register_count) 0) (get_or labels k 0)
  lacked k b = record { is = h.mirrors.lacks k b; below = h.mirrors.below k b }

  -- An op that sets register a.
  sets : {op : Op} → fetch here ≡ fetched w op → is_common_op op ≡ true → (ok : Bool) (v k : ℕ) {r : Turn} {values' : List ℕ}
      → taken r values' ≡ assigned values (a_field w) ok v k spot → 0 < k
      → table here w op ≡ row (ok && writable (a_field w)) (does (write (value (register (a_field w)) v))) k → Turns r values' words
  sets f c ok v k e p t =
      sets_row due f c (a_field w) (ok && writable (a_field w)) v k (rw (← onward) (assigned_turn _ _ _ _ _ _ e)) (assigned_is _ _ _ _ _ _ (a_below w) e) p t refl

  -- Op 1.
  pub immediate_turn : fetch here ≡ fetched w immediate → {r : Turn} {values' : List ℕ}
      → taken r values' ≡ immediate_taken spot values turned → Turns r values' words
  unfolding table label_at
  immediate_turn f e =
      sets f refl _ _ _ e (omega arith) (rw (one_goes (lacked (a_field w) (a_below w)) (under context.pair.pc)))

  -- The arithmetic ops.
  pub arithmetic_turn : {o : Arithmetic} → context.pair.timing < label_count → fetch here ≡ fetched w (arithmetic o)
      → {r : Turn} {values' : List ℕ} → taken r values' ≡ combined_taken o spot values turned → Turns r values' words
  unfolding table value_at label_at
  arithmetic_turn {o} t f e =
      sets f refl _ _ _ e (ticks_long o _ _)
      (rw (
        three_go_right (lacked (a_field w) (a_below w)) (under context.pair.pc) (held (b_field w) (b_below w)) (held (c_field w) (c_below w)),
        both_go (towards t) (held (b_field w) (b_below w)) (held (c_field w) (c_below w)),
      ))

  -- Op 9.
  pub load_turn : fetch here ≡ fetched w load → {r : Turn} {values' : List ℕ} → LoadTurn spot values turned words marks r values'
      → Turns r values' words
  unfolding table value_at label_at
  load_turn f e =
      let to = get_or values (b_field w) 0 in
      let held' = bit_or (bit_or (restrictions context.pair.pc) (get_or turned (b_field w) 0)) (restrictions (get_or marks to 0)) in
      sets_row due f refl (a_field w)
      (ltb to context.size && may_go held' (get_or turned (a_field w + register_count) 0) && writable (a_field w)) (get_or words to 0) 3
      (rw (← onward) e.turn) e.values (omega arith)
      (rw (three_go (lacked (a_field w) (a_below w)) (under context.pair.pc) (held (b_field w) (b_below w))
      (under (get_or marks (get_or values (b_field w) 0) 0)))) refl

  -- Op 10.
  pub store_turn : fetch here ≡ fetched w store → get_or marks (get_or values (b_field w) 0) 0 < label_count → {r : Turn} {words' : List ℕ}
      → StoreTurn spot values turned words marks r words' → Turns r values words'
  unfolding table value_at label_at
  store_turn f b e =
      let to = get_or values (b_field w) 0 in
      let held' = bit_or (bit_or (restrictions context.pair.pc) (get_or turned (b_field w) 0)) (get_or turned (a_field w) 0) in
      stores_row due f refl to (ltb to context.size && may_go held' (lacking (get_or marks to 0))) (get_or values (a_field w) 0) 3
      (rw (← onward) e.turn) e.words (omega arith)
      (rw (three_go (towards b) (under context.pair.pc) (held (b_field w) (b_below w)) (held (a_field w) (a_below w)))) refl

  -- Ops 11 and 12: on at n where the comparison of the registers a and b holds.
  pub branch_turn : {o : Comparison} → context.pair.pc < label_count → fetch here ≡ fetched w (branch o)
      → {a b : ℕ} → Fields w a b → {ok taken : Bool} {n x : ℕ} {r : Turn} → r ≡ gone spot ok taken n
      → ok ≡ may_go (bit_or (get_or turned a 0) (get_or turned b 0)) x → x ≡ lacking context.pair.pc
      → taken ≡ holds o (get_or values a 0) (get_or values b 0) → n ≡ n_field w → Turns r values words
  unfolding table value_at label_at gone
  branch_turn p f i {ok} {taken} {n} e eo ex et en =
      goes_row due f refl ok taken n (rw (← onward) e)
      (rw (eo, et, en, i.ra, i.rb, two_go (record { is = ex; below = p }) (held (a_field w) (a_below w)) (held (b_field w) (b_below w)))) refl refl

  -- Op 13.
  pub jump_turn : context.pair.pc < label_count → fetch here ≡ fetched w jump → {a b : ℕ} → Fields w a b → {ok : Bool} {x : ℕ} {r : Turn}
      → r ≡ gone spot ok true (get_or values b 0) → ok ≡ may_go (get_or turned b 0) x → x ≡ lacking context.pair.pc
      → Turns r values words
  unfolding table value_at label_at gone
  jump_turn p f {b = b} i {ok} e eo ex =
      goes_row due f refl ok true (get_or values b 0) (rw (← onward) e) (rw (eo, i.rb, one_goes (record { is = ex; below = p }) (held (b_field w) (b_below w)))) refl refl

  -- Op 14.
  pub clock_turn : fetch here ≡ fetched w read_clock → {r : Turn} {values' : List ℕ} → ClockTurn spot values turned r values'
      → Turns r values' words
  unfolding table label_at
  clock_turn f e =
      sets f refl _ _ _ e.assigned (omega arith)
      (rw (
        two_go (lacked (a_field w) (a_below w)) (under context.pair.pc) (under context.pair.timing),
        clock_read spot.left context.deadline h.left e.counted e.short,
      ))

-- ---- the other ops

-- A turn that leaves the state.
pub stays : (s : State) (deadline left : ℕ) (why : Reason) {r : Turn} → r ≡ Stopping why → Stopped why deadline s
    → Did s deadline left r s.registers.values s.memory.values
stays s deadline left why q e =
    subst (λ (r : Turn). Did s deadline left r s.registers.values s.memory.values) (sym q)
    (record { reason = e; registers = refl; memory = refl })
