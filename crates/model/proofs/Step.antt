-- The laws of one step: what it writes fits and is legal, what it leaves, and where it leaves the clock.
-- Assumes nothing.
use Prim.Native.Nat.{ℕ, ◌+◌, ◌<◌, ◌≤◌}
use mathlib.Core.Path.{◌≡◌, refl, sym, ap, ◌∙◌, subst}
use mathlib.Core.Logic.{◌⊎◌, inl, inr}
use mathlib.Core.Bool.{Bool, true, false, ◌||◌, or-true}
use mathlib.Core.List.{List}
use native.Mathlib.Nat.{le_refl, lt_of_lt_of_le}
use native.Mathlib.Omega.{arith}
use lib.Dec.{eqb, ltb, lit<}
use lib.ListN.{get_or, set, length, drop}
use lib.Seq.{drop-set-lt}
use borrow.Author.Tests.{eq-eqb}
use Rattle.labels.specs.Label.{label_count}
use Rattle.principals.proofs.Laws.{flows_trans, valid_flows}
use Rattle.model.specs.declared.Fixed.{Fixed}
use Rattle.model.specs.declared.Control.{Control}
use Rattle.model.specs.Record.{Bank, State, Location, register, word, label_at, machine_of, newest, in_upcall}
use Rattle.model.specs.WellFormed.{zero_reads}
use Rattle.model.specs.Numbers.{register_count, value_count}
use Rattle.model.specs.Inner.Typed.{Below, BankTyped}
use Rattle.model.specs.Ops.{Write, Change, write, goto, enter, open_upcall, open_gate, close_gate, stop}
use Rattle.model.specs.Step.{Decision, rest, spend, stall, close, carry, end_tick, finish, fetch, plan, beyond_limit, in_limit, running, decide, set_value, set_label_at, written, cause_allowed, cause_write, change_write, write_of, changed, restored, control_after, apply, step}
use Rattle.model.proofs.Truth.{choice, clash}
use Rattle.model.proofs.Writes.{There, Lengths, lengths, set_at, written_lengths, zero_left}
use Rattle.model.proofs.Ready.{◌⊑◌, FixedFit, Fit, Ready}
use Rattle.model.proofs.Legal.{Inside, LegalWrite, keeps, sets, marks, LegalChange, writes, goes, enters, calls, gates, returns, stops, Legal, rests, spends, stalls, closes, carries, legal}
use Rattle.model.proofs.WellFormed.{top_upcall, decision_fit, step_fixed, step_control}

-- ---- what a step writes

-- A cause is written to register 15 only where p, by way of t, flows to its label.
cause_legal : (s : State) (cause : ℕ) → Fit (machine_of s) → cause ≤ 3 → LegalWrite s (cause_write s cause)
unfolding cause_write cause_allowed
cause_legal s cause f h =
    choice (LegalWrite s) (cause_allowed s) _ _
    (λ e. let k : s.control.pair.timing ⊑ label_at s (register 15) = record { holds = e } in
    sets (lit< tt) (lit< tt) (flows_trans (valid_flows _ _ _ f.valid) k) (omega arith))
    (λ e. keeps)

-- What a change writes is legal.
change_write_lem : (s : State) {ticks : ℕ} {c : Change} → LegalChange s ticks c → LegalWrite s (change_write c)
change_write_lem s (writes h) = h
change_write_lem s goes = keeps
change_write_lem s (enters v p t) = keeps
change_write_lem s (calls h) = keeps
change_write_lem s (gates h) = keeps
change_write_lem s (returns g p) = keeps
change_write_lem s (stops n) = keeps

-- What a decision writes is legal: its location exists and isn't register 0, and p flows to the labels there.
pub write_legal : (s : State) {d : Decision} → Fit (machine_of s) → Legal s d → LegalWrite s (write_of s d)
unfolding write_of
write_legal s f (rests r) = keeps
write_legal s f (spends r h) = keeps
write_legal s f (stalls r n a b) = keeps
write_legal s f (closes {cause} r u c l) = cause_legal s cause f c
write_legal s f (carries r long l u h) = change_write_lem s h

-- A register or a word that exists is there in a ready state.
pub there : (s : State) → Ready s → (x : Location) → Inside s x → There s x
there s r (register k) h =
    record { value = rw r.typed.registers.values h; label = rw r.typed.registers.labels h }
there s r (word k) h = record { value = lt_of_lt_of_le h r.words; label = lt_of_lt_of_le h r.labels }

-- ---- what a step leaves

-- The lengths of the lists.
pub step_lengths : (s : State) → lengths (step s) ≡ lengths s
unfolding step apply
step_lengths s = written_lengths s (write_of s (decide s))

-- Numbers below k stay so after one below k is set.
below_set : {k n : ℕ} (xs : List ℕ) (i v : ℕ) → i < length xs → v < k → Below k n xs → Below k n (set xs i v)
below_set {k} xs i v h lt b j g =
    rw (set_at 0 xs i j v h) (choice (λ (x : ℕ). x < k) (eqb i j) v (get_or xs j 0) (λ e. lt) (λ e. b j g))

-- So do values and labels, after a value or a label is set.
pub value_typed : {n : ℕ} (b : Bank) (k v : ℕ) → k < length b.values → v < value_count → BankTyped n b
    → BankTyped n (set_value v b k)
value_typed b k v h lt t = record { values = below_set b.values k v h lt t.values; labels = t.labels }

pub label_typed : {n : ℕ} (b : Bank) (k l : ℕ) → k < length b.labels → l < label_count → BankTyped n b
    → BankTyped n (set_label_at l b k)
label_typed b k l h lt t = record { values = t.values; labels = below_set b.labels k l h lt t.labels }

-- Registers, and words below the size, keep to their types.
written_typed : (s : State) → Ready s → {w : Write} → LegalWrite s w
    → BankTyped register_count (written s w).registers × BankTyped s.fixed.size (written s w).memory
unfolding written
written_typed s r keeps = (r.typed.registers.numbers, r.typed.memory)
written_typed s r (sets {x = register k} {v = v} h z p lt) =
    (value_typed s.registers k v (there s r (register k) h).value lt r.typed.registers.numbers, r.typed.memory)
written_typed s r (sets {x = word k} {v = v} h z p lt) =
    (r.typed.registers.numbers, value_typed s.memory k v (there s r (word k) h).value lt r.typed.memory)
written_typed s r (marks {x = register k} {l = l} h z p q lt) =
    (label_typed s.registers k l (there s r (register k) h).label lt r.typed.registers.numbers, r.typed.memory)
written_typed s r (marks {x = word k} {l = l} h z p q lt) =
    (r.typed.registers.numbers, label_typed s.memory k l (there s r (word k) h).label lt r.typed.memory)

-- Register 0.
written_zero : (s : State) {w : Write} → LegalWrite s w → zero_reads (written s w).registers ≡ zero_reads s.registers
unfolding written zero_reads
written_zero s keeps = refl
written_zero s (sets {x = register k} {v = v} h z p lt) = rw (zero_left s.registers.values k v z)
written_zero s (sets {x = word k} h z p lt) = refl
written_zero s (marks {x = register k} {l = l} h z p q lt) = rw (zero_left s.registers.labels k l z)
written_zero s (marks {x = word k} h z p q lt) = refl

-- Words and labels at or beyond the size.
written_beyond : (s : State) {w : Write} → LegalWrite s w
    → (drop s.fixed.size (written s w).memory.values ≡ drop s.fixed.size s.memory.values)
    × (drop s.fixed.size (written s w).memory.labels ≡ drop s.fixed.size s.memory.labels)
unfolding written
written_beyond s keeps = (refl, refl)
written_beyond s (sets {x = register k} h z p lt) = (refl, refl)
written_beyond s (sets {x = word k} {v = v} h z p lt) = (drop-set-lt _ s.memory.values k v h, refl)
written_beyond s (marks {x = register k} h z p l n) = (refl, refl)
written_beyond s (marks {x = word k} {l = m} h z p l n) = (refl, drop-set-lt _ s.memory.labels k m h)

-- What a step writes is legal.
pub step_write : (s : State) → Ready s → LegalWrite s (write_of s (decide s))
step_write s r = write_legal s r.fit (legal s r)

-- A step leaves words and labels at or beyond the size.
pub step_beyond : (s : State) → Ready s
    → (drop s.fixed.size (step s).memory.values ≡ drop s.fixed.size s.memory.values)
    × (drop s.fixed.size (step s).memory.labels ≡ drop s.fixed.size s.memory.labels)
unfolding step apply
step_beyond s r = written_beyond s (step_write s r)

-- A step of a well-formed record gives a well-formed record.
step_fit : (s : State) → Ready s → Fit (machine_of (step s))
unfolding step apply
step_fit s r =
    let c = decision_fit s r.fit (legal s r) in
    record {
      fixed = subst FixedFit (sym (step_fixed s)) r.fit.fixed;
      end = c.end;
      clock = rw (step_fixed s) c.clock;
      valid = c.valid;
      calls = c.calls;
      zero = written_zero s (step_write s r) ∙ r.fit.zero;
    }

-- A step of a ready state gives a ready state.
pub step_ready : (s : State) → Ready s → Ready (step s)
unfolding step apply
step_ready s r =
    let b = written_typed s r (step_write s r) in
    let n = step_lengths s in
    record {
      fit = step_fit s r;
      typed =
          record {
            registers =
                record {
                  values = ap (λ (x : Lengths). x.values) n ∙ r.typed.registers.values;
                  labels = ap (λ (x : Lengths). x.labels) n ∙ r.typed.registers.labels;
                  numbers = b.0;
                };
            memory = subst (λ (f : Fixed). BankTyped f.size (step s).memory) (sym (step_fixed s)) b.1;
          };
      words = rw (step_fixed s, ap (λ (x : Lengths). x.words) n) r.words;
      labels = rw (step_fixed s, ap (λ (x : Lengths). x.tags) n) r.labels;
    }

-- ---- the clock

-- A step leaves the clock where its decision would finish: a carried-out change at the clock and its ticks, a close at
-- the end tick + 1.
pub clock_after : (s : State) (d : Decision) → (control_after s d).clock ≡ finish s d
unfolding control_after finish changed restored
clock_after s rest = refl
clock_after s spend = refl
clock_after s (stall why) = refl
clock_after s (close cause) = refl
clock_after s (carry ticks (write x)) = refl
clock_after s (carry ticks (goto k)) = refl
clock_after s (carry ticks (enter q)) = refl
clock_after s (carry ticks (open_upcall k q e)) = refl
clock_after s (carry ticks (open_gate g)) = refl
clock_after s (carry ticks close_gate) = refl
clock_after s (carry ticks stop) = refl

-- The end tick of an open upcall is at least the clock.
pub end_tick_late : (s : State) → Fit (machine_of s) → in_upcall s.control ≡ true → s.control.clock ≤ end_tick s
unfolding end_tick in_upcall newest
end_tick_late s f u = (top_upcall f.calls u).started

-- The clock never falls and never passes the limit, and a step that leaves it ends the run.
pub record Passes (s : State) (c : Control) : Type 0 where
  pub rises : s.control.clock ≤ c.clock
  pub limited : c.clock ≤ s.fixed.limit
  pub progress : running s ≡ true → (s.control.clock < c.clock) ⊎ (eqb c.end 0 ≡ false)

-- So it is with every decision.
passes : (s : State) {d : Decision} → Fit (machine_of s) → Legal s d → Passes s (control_after s d)
unfolding finish control_after
passes s f (rests r) = record { rises = le_refl _; limited = f.clock; progress = λ u. clash u r }
passes s f (spends r h) = record { rises = f.clock; limited = le_refl _; progress = λ u. inr refl }
passes s f (stalls r n a b) = record { rises = le_refl _; limited = f.clock; progress = λ u. inr refl }
passes s f (closes {cause} r u c l) =
    let k = end_tick_late s f u in
    rw (clock_after s (close cause)) (record { rises = omega arith; limited = omega arith; progress = λ v. inl (omega arith) })
passes s f (carries {ticks} {c} r long l u h) =
    let k = clock_after s (carry ticks c) in
    record { rises = omega arith; limited = omega arith; progress = λ v. inl (omega arith) }

-- So it is with a step.
pub step_passes : (s : State) → Ready s → Passes s (step s).control
step_passes s r = rw (step_control s) (passes s r.fit (legal s r))

-- The clock after a step.
pub step_clock : (s : State) → (step s).control.clock ≡ finish s (decide s)
step_clock s = ap (λ c. c.clock) (step_control s) ∙ clock_after s (decide s)

-- A carried-out step's clock is the clock before plus its ticks.
pub carried_clock : (s : State) (ticks : ℕ) (c : Change) → decide s ≡ carry ticks c
    → (step s).control.clock ≡ s.control.clock + ticks
unfolding finish
carried_clock s ticks c e = step_clock s ∙ ap (finish s) e

-- A close's is the end tick + 1.
pub closed_clock : (s : State) (cause : ℕ) → decide s ≡ close cause → (step s).control.clock ≡ end_tick s + 1
unfolding finish
closed_clock s cause e = step_clock s ∙ ap (finish s) e

-- An ended record steps to itself.
pub step_ended : (s : State) → running s ≡ false → step s ≡ s
unfolding step apply decide write_of written control_after
step_ended s e = rw e

-- At clock = limit everything is beyond the limit.
at_limit : (s : State) (d : Decision) → s.control.clock ≡ s.fixed.limit → beyond_limit s d ≡ true
unfolding beyond_limit
at_limit s d e =
    let late = ltb s.fixed.limit (finish s d) in
    ap (λ (b : Bool). late || b) (eq-eqb s.control.clock s.fixed.limit e) ∙ or-true late

-- So every step of a running record there spends the clock.
pub spends_at_limit : (s : State) → running s ≡ true → s.control.clock ≡ s.fixed.limit → decide s ≡ spend
unfolding decide in_limit
spends_at_limit s r e = rw (r, at_limit s (plan s (fetch s)) e)
