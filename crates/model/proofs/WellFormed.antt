-- Well-formed controls: what is asked of calls, kept, opened and closed; and the law that what a legal decision leaves of a
-- well-formed record's control is well-formed.
-- Assumes nothing.
use Prim.Native.Nat.{ℕ, ◌+◌, ◌≤◌}
use mathlib.Core.Path.{◌≡◌, refl, sym}
use mathlib.Core.Bool.{true, false, ◌&&◌, cond}
use native.Mathlib.Omega.{arith}
use lib.Dec.{leb, eqb}
use borrow.Author.Tests.{le-leb, eqb-true}
use Rattle.principals.proofs.Laws.{flows_refl, flows_trans, valid_flows}
use Rattle.model.specs.declared.Pair.{Pair}
use Rattle.model.specs.declared.Control.{Control}
use Rattle.model.specs.declared.Call.{Call}
use Rattle.model.specs.declared.Call.TheVariants.{Empty, Gate, Upcall}
use Rattle.model.specs.Record.{State, machine_of, newest, in_upcall, is_empty, is_gate, is_upcall, end_tick_of, pair_of}
use Rattle.model.specs.WellFormed.{is_valid, end_in_range}
use Rattle.model.specs.Ops.{Change}
use Rattle.model.specs.Step.{Decision, end_tick, decide, write_of, restored, changed, control_after, apply, step}
use Rattle.model.proofs.Truth.{clash}
use Rattle.model.proofs.Writes.{written_fixed}
use Rattle.model.proofs.Ready.{◌⊑◌, UpcallFit, CallsFit, none, gate, upcall, both, Fit}
use Rattle.model.proofs.Legal.{LegalChange, writes, goes, enters, calls, gates, returns, stops, Legal, rests, spends, stalls, closes, carries}

-- A running record has end 0, and so why 0.
pub running_end : (c : Control) → eqb c.end 0 ≡ true → end_in_range c ≡ true → (c.end ≡ 0) × (c.why ≡ 0)
unfolding end_in_range
running_end c e h =
    let z = eqb-true c.end 0 e in
    let k : (leb c.end 3 && cond (eqb c.end 3) (leb 1 c.why && leb c.why 3) (eqb c.why 0)) ≡ true = h in
    (z, eqb-true c.why 0 (rw z at k))

-- The newest of two calls.
abbrev top : Call → Call → Call
top x y = cond (is_empty y) x y

-- The newest call is an upcall: what is asked of it.
pub top_upcall : {now : Pair} {clock : ℕ} {x y : Call} → CallsFit now clock x y → is_upcall (top x y) ≡ true
    → UpcallFit now clock (pair_of (top x y)) (end_tick_of (top x y))
top_upcall none e = clash refl (sym e)
top_upcall (gate h) e = clash refl (sym e)
top_upcall (upcall h) e = h
top_upcall (both h k) e = k

-- What an open call keeps is valid.
top_valid : {now : Pair} {clock : ℕ} {x y : Call} → CallsFit now clock x y → is_empty (top x y) ≡ false
    → is_valid (pair_of (top x y)) ≡ true
top_valid none e = clash refl e
top_valid (gate h) e = h
top_valid (upcall h) e = h.valid
top_valid (both h k) e = k.valid

-- An upcall stays well-formed while the pair rises and the clock has not passed its end tick.
upcall_kept : {now later q : Pair} {clock e : ℕ} (clock' : ℕ) → UpcallFit now clock q e → now.pc ⊑ later.pc
    → now.timing ⊑ later.timing → clock' ≤ e → UpcallFit later clock' q e
upcall_kept clock' h p t k =
    record {
      valid = h.valid;
      pc = flows_trans h.pc p;
      timing = flows_trans h.timing t;
      started = k;
      bounded = h.bounded;
    }

-- So do the calls.
calls_kept : {now later : Pair} {clock : ℕ} {x y : Call} (clock' : ℕ) → CallsFit now clock x y → now.pc ⊑ later.pc
    → now.timing ⊑ later.timing → (is_upcall (top x y) ≡ true → clock' ≤ end_tick_of (top x y))
    → CallsFit later clock' x y
calls_kept clock' none p t k = none
calls_kept clock' (gate h) p t k = gate h
calls_kept clock' (upcall h) p t k = upcall (upcall_kept clock' h p t (k refl))
calls_kept clock' (both h u) p t k = both h (upcall_kept clock' u p t (k refl))

-- The calls with the newest closed.
calls_closed : {now : Pair} {clock : ℕ} {x y : Call} (later : Pair) (clock' : ℕ) → CallsFit now clock x y
    → CallsFit later clock' (cond (is_empty y) Empty x) Empty
calls_closed later clock' none = none
calls_closed later clock' (gate h) = none
calls_closed later clock' (upcall h) = none
calls_closed later clock' (both h k) = gate h

-- The calls with an upcall opened.
calls_upcall : {now later q : Pair} {clock clock' e : ℕ} {x y : Call} (k : ℕ) → CallsFit now clock x y
    → is_upcall (top x y) ≡ false → UpcallFit later clock' q e
    → CallsFit later clock' (cond (is_empty x) (Upcall k q e) x) (cond (is_empty x) Empty (Upcall k q e))
calls_upcall k none n u = upcall u
calls_upcall k (gate h) n u = both h u
calls_upcall k (upcall h) n u = clash refl n
calls_upcall k (both h v) n u = clash refl n

-- The calls with a gate call opened.
calls_gate_lem : {now : Pair} {clock : ℕ} {x y : Call} (later q : Pair) (clock' k : ℕ) → CallsFit now clock x y
    → is_empty (top x y) ≡ true → is_valid q ≡ true
    → CallsFit later clock' (cond (is_empty x) (Gate k q) x) (cond (is_empty x) Empty (Gate k q))
calls_gate_lem later q clock' k none n v = gate v
calls_gate_lem later q clock' k (gate h) n v = clash n refl
calls_gate_lem later q clock' k (upcall h) n v = clash n refl
calls_gate_lem later q clock' k (both h u) n v = clash n refl

-- A gate call or an upcall is open.
gate_open : (x : Call) → is_gate x ≡ true → is_empty x ≡ false
gate_open Empty e = sym e
gate_open (Gate k q) e = refl
gate_open (Upcall k q t) e = refl

upcall_open : (x : Call) → is_upcall x ≡ true → is_empty x ≡ false
upcall_open Empty e = sym e
upcall_open (Gate k q) e = refl
upcall_open (Upcall k q t) e = refl

-- What a well-formed record has of its control, under this limit.
pub record ControlFit (limit : ℕ) (c : Control) : Type 0 where
  pub end : end_in_range c ≡ true
  pub clock : c.clock ≤ limit
  pub valid : is_valid c.pair ≡ true
  pub calls : CallsFit c.pair c.clock c.first c.second

module _ (s : State) (f : Fit (machine_of s)) where
  -- The pair as it is flows to itself.
  stays : s.control.pair.pc ⊑ s.control.pair.pc
  stays = flows_refl _ _

  -- The control after a change in so many ticks.
  change_fit : {ticks : ℕ} {c : Change} → s.control.clock + ticks ≤ s.fixed.limit
      → (in_upcall s.control ≡ true → s.control.clock + ticks ≤ end_tick s) → LegalChange s ticks c
      → ControlFit s.fixed.limit (changed s.control (s.control.clock + ticks) c)
  unfolding changed restored end_in_range end_tick in_upcall newest
  change_fit l u (writes h) =
      record { end = f.end; clock = l; valid = f.valid; calls = calls_kept _ f.calls stays (flows_refl _ _) u }
  change_fit l u goes =
      record { end = f.end; clock = l; valid = f.valid; calls = calls_kept _ f.calls stays (flows_refl _ _) u }
  change_fit l u (enters v p t) =
      record { end = f.end; clock = l; valid = v; calls = calls_kept _ f.calls p t u }
  change_fit l u (calls h) =
      record {
        end = f.end;
        clock = l;
        valid = h.valid;
        calls =
            calls_upcall _ f.calls h.outside
            (record {
              valid = f.valid;
              pc = h.pc;
              timing = flows_trans h.timing (valid_flows _ _ _ h.valid);
              started = h.early;
              bounded = omega arith;
            });
      }
  change_fit l u (gates h) =
      record { end = f.end; clock = l; valid = h.valid; calls = calls_gate_lem _ s.control.pair _ _ f.calls h.empty f.valid }
  change_fit l u (returns g p) =
      record { end = f.end; clock = l; valid = top_valid f.calls (gate_open (newest s.control) g); calls = calls_closed _ _ f.calls }
  change_fit l u (stops n) =
      record { end = refl; clock = l; valid = f.valid; calls = calls_kept _ f.calls stays (flows_refl _ _) u }

  -- The control after a decision.
  pub decision_fit : {d : Decision} → Legal s d → ControlFit s.fixed.limit (control_after s d)
  unfolding control_after restored end_in_range end_tick in_upcall newest
  decision_fit (rests r) = record { end = f.end; clock = f.clock; valid = f.valid; calls = f.calls }
  decision_fit (spends r h) =
      record {
        end = refl;
        clock = omega arith;
        valid = f.valid;
        calls =
            calls_kept _ f.calls stays (flows_refl _ _)
            (λ e. h e (top_upcall f.calls e).started);
      }
  decision_fit (stalls {why} r n a b) =
      record {
        end = rw (le-leb 1 why a, le-leb why 3 b);
        clock = f.clock;
        valid = f.valid;
        calls = f.calls;
      }
  decision_fit (closes r u c l) =
      record {
        end = f.end;
        clock = omega arith;
        valid = top_valid f.calls (upcall_open (newest s.control) u);
        calls = calls_closed _ _ f.calls;
      }
  decision_fit (carries r long l u h) = change_fit l u h

-- A step keeps what no step changes.
pub step_fixed : (s : State) → (step s).fixed ≡ s.fixed
unfolding step apply
step_fixed s = written_fixed s (write_of s (decide s))

-- A step's control.
pub step_control : (s : State) → (step s).control ≡ control_after s (decide s)
unfolding step apply
step_control s = refl
