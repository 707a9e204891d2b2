-- A step that attempts no release, between states that break nothing, meets the three provisos: a label is lowered by a
-- relabelling alone, and a gate call from outside to within is made from a state at large.
-- Assumes nothing.
use Prim.Native.Nat.{ℕ, zero, suc, ◌<◌}
use mathlib.Core.Path.{◌≡◌, refl, sym, ap, ◌∙◌, subst}
use mathlib.Core.Logic.{⊎_elim}
use mathlib.Core.Bool.{Bool, true, false, not, ◌&&◌, ◌||◌, cond, and-false}
use native.Mathlib.Omega.{arith}
use lib.Dec.{eqb}
use lib.ListN.{get_or}
use borrow.Author.Tests.{eqb-true, eqb-false}
use Rattle.labels.specs.Label.{principals, flows}
use Rattle.principals.proofs.Laws.{raise_rises, relabel_flows_new, relabel_reflected}
use Rattle.model.specs.declared.Fixed.{Fixed}
use Rattle.model.specs.declared.Control.{Control}
use Rattle.model.specs.declared.Call.{Call}
use Rattle.model.specs.declared.Call.TheVariants.{Empty, Gate, Upcall}
use Rattle.model.specs.Record.{State, Location, register, label_at, is_empty, is_upcall, newest, in_upcall}
use Rattle.model.specs.Word.{Rule, raise, relabel, Op, immediate, arithmetic, load, store, branch, jump, read_clock, set_label, set_pair, upcall, end_upcall, gate_call, gate_return, halt, a_field}
use Rattle.model.specs.WellFormed.{no_gate}
use Rattle.model.specs.Ops.{writable, Write, label, Change, write, Effect, does, is_label, allows, La, Lb, Rb, table}
use Rattle.model.specs.Step.{fetched, fetch, Decision, carry, decide, is_carried, write_of, written, control_after, changed, step}
use Rattle.model.specs.Seen.{within, exists}
use Rattle.noninterference.specs.Noninterference.{downgrades, calls_gate, gate_calls_in, timed_from_outside, StepProvisos}
use Rattle.certificates.specs.Certificate.{tries_release, releases, attempts, leads_within, at_large, breaks}
use Rattle.model.proofs.Truth.{either, clash, and_iff, and_three, or_iff}
use Rattle.model.proofs.Writes.{same, label_after_label, label_after_value}
use Rattle.model.proofs.Ready.{Ready}
use Rattle.model.proofs.Legal.{LegalWrite, keeps, sets, marks, LegalChange, writes, goes, enters, calls, gates, returns, stops, Legal, rests, spends, stalls, closes, carries, legal}
use Rattle.model.proofs.WellFormed.{step_control}
use Rattle.model.proofs.Step.{there, step_write}
use Rattle.model.proofs.Sight.{same_location, within_down}
use Rattle.noninterference.proofs.Unseen.{outside_on}
use Rattle.model.proofs.Visible.{step_leaves}
use Rattle.model.proofs.Relabelling.{Plain, same_label, effect_write, relabelling}

-- ---- the op that sets a label

-- A step that sets the label of a location: its word is that of op 15 or 16.
record Set (s : State) (x : Location) (l : ℕ) : Type 0 where
  word : ℕ
  rule : Rule
  fetched : fetch s ≡ fetched word (set_label rule)
  check : (is_label (Rb s word) && allows rule s.control.pair.pc (La s word) (Rb s word) && flows (Lb s word) s.control.pair.pc) ≡ true
  location : register (a_field word) ≡ x
  label : Rb s word ≡ l
  done : is_carried (decide s) ≡ true

module _ (s : State) {x : Location} {l : ℕ} where
  -- An effect that sets no label is another one.
  plain_effect : {e : Effect} → Plain (effect_write e) → e ≡ does (write (label x l)) → Set s x l
  plain_effect h e = absurd (subst (λ (d : Effect). Plain (effect_write d)) e h)

  -- Of all ops those two.
  set_op : (w : ℕ) (op : Op) → fetch s ≡ fetched w op → (table s w op).check ≡ true
      → (table s w op).effect ≡ does (write (label x l)) → is_carried (decide s) ≡ true → Set s x l
  unfolding table
  set_op w immediate f c e d = plain_effect {e = (table s w immediate).effect} tt e
  set_op w (arithmetic g) f c e d = plain_effect {e = (table s w (arithmetic g)).effect} tt e
  set_op w load f c e d = plain_effect {e = (table s w load).effect} tt e
  set_op w store f c e d = plain_effect {e = (table s w store).effect} tt e
  set_op w (branch g) f c e d = plain_effect {e = (table s w (branch g)).effect} tt e
  set_op w jump f c e d = plain_effect {e = (table s w jump).effect} tt e
  set_op w read_clock f c e d = plain_effect {e = (table s w read_clock).effect} tt e
  set_op w (set_label g) f c e d =
      let h = same_label (ap effect_write e) in
      record { word = w; rule = g; fetched = f; check = ((and_iff _ (writable (a_field w))).0 c).0; location = h.0; label = h.1; done = d }
  set_op w set_pair f c e d = plain_effect {e = (table s w set_pair).effect} tt e
  set_op w upcall f c e d = plain_effect {e = (table s w upcall).effect} tt e
  set_op w end_upcall f c e d = plain_effect {e = (table s w end_upcall).effect} tt e
  set_op w gate_call f c e d = plain_effect {e = (table s w gate_call).effect} tt e
  set_op w gate_return f c e d = plain_effect {e = (table s w gate_return).effect} tt e
  set_op w halt f c e d = plain_effect {e = (table s w halt).effect} tt e

  -- A step that sets a label.
  set_step : write_of s (decide s) ≡ label x l → Set s x l
  set_step e =
      let r = relabelling s e in
      set_op r.word r.op r.fetched r.check r.effect (ap is_carried r.decided)

-- ---- what attempts nothing

-- A raise is no release: what it raises from outside stays outside.
pub raise_quiet : (ℓ : ℕ) (s : State) (w : ℕ) → fetch s ≡ fetched w (set_label raise) → attempts ℓ s ≡ false
unfolding attempts
raise_quiet ℓ s w f = rw (f, and-false)

-- ---- no label is lowered but by an attempt

-- A label set from outside to within: a release was attempted.
set_attempts : (ℓ : ℕ) (s : State) {x : Location} {l : ℕ} → Set s x l → within ℓ (label_at s x) ≡ false → within ℓ l ≡ true
    → attempts ℓ s ≡ true
unfolding attempts tries_release
set_attempts ℓ s {x} {l} h o i =
    rw (h.done, h.fetched)
    (go h.rule h.check (ap (λ (y : Location). within ℓ (label_at s y)) h.location ∙ o)
    (ap (within ℓ) h.label ∙ i))
  where
    w : ℕ
    w = h.word

    p : ℕ
    p = s.control.pair.pc

    go : (f : Rule) → (is_label (Rb s w) && allows f p (La s w) (Rb s w) && flows (Lb s w) p) ≡ true
        → within ℓ (La s w) ≡ false → within ℓ (Rb s w) ≡ true → releases ℓ s (fetched w (set_label f)) ≡ true
    go raise c o i =
        let k = and_three (is_label (Rb s w)) (allows raise p (La s w) (Rb s w)) (flows (Lb s w) p) c in
        clash i (outside_on ℓ (raise_rises principals p (La s w) (Rb s w) k.1) o)
    go relabel c o i =
        let k = and_three (is_label (Rb s w)) (allows relabel p (La s w) (Rb s w)) (flows (Lb s w) p) c in
        let up = relabel_flows_new principals p (La s w) (Rb s w) k.1 in
        let down = relabel_reflected principals p (La s w) (Rb s w) k.1 in
        rw ((within_down ℓ).below up i, o, k.0, i, k.2, up.holds, down.holds)

module _ (ℓ : ℕ) (s : State) (r : Ready s) (quiet : attempts ℓ s ≡ false) where
  -- The label that a write leaves is within only where the one before was.
  label_kept : {w : Write} → write_of s (decide s) ≡ w → LegalWrite s w → (y : Location) → within ℓ (label_at s y) ≡ false
      → within ℓ (label_at (written s w) y) ≡ false
  unfolding written
  label_kept e keeps y o = o
  label_kept e (sets {x = x} {v = v} i z h b) y o = ap (within ℓ) (label_after_value s x y v) ∙ o
  label_kept e (marks {x = x} {l = l} i z h k n) y o =
      ap (within ℓ) (label_after_label s x y l (there s r x i)) ∙ go (same x y) refl
    where
      go : (b : Bool) → same x y ≡ b → within ℓ (cond b l (label_at s y)) ≡ false
      go false d = o
      go true d =
          ⊎_elim
          (λ (j : within ℓ l ≡ true).
          clash
          (set_attempts ℓ s (set_step s e) (ap (λ (z : Location). within ℓ (label_at s z)) (same_location x y d) ∙ o) j)
          quiet)
          (λ (j : within ℓ l ≡ false). j)
          (either (within ℓ l))

  no_downgrade_lem : (y : Location) → downgrades ℓ s (step s) y ≡ false
  unfolding downgrades
  no_downgrade_lem y =
      go (exists s y) (within ℓ (label_at s y)) refl
    where
      go : (a b : Bool) → within ℓ (label_at s y) ≡ b → (a && not b && within ℓ (label_at (step s) y)) ≡ false
      go false b o = refl
      go true true o = refl
      go true false o = ap (within ℓ) (step_leaves s y).0 ∙ label_kept refl (step_write s r) y o

-- ---- a gate call from outside to within

-- One of the gates leads within.
leads : (ℓ n m : ℕ) (f : Fixed) → n < m → within ℓ (get_or f.gates n no_gate).pair.pc ≡ true → leads_within ℓ f m ≡ true
unfolding leads_within
leads ℓ n zero f h e = absurd (omega arith)
leads ℓ n (suc m) f h e =
    ⊎_elim
    (λ (k : eqb n m ≡ true). ap (λ (j : ℕ). within ℓ (get_or f.gates j no_gate).pair.pc || leads_within ℓ f m) (sym (eqb-true n m k)) ∙ rw e)
    (λ (k : eqb n m ≡ false).
    let d = eqb-false n m k in
    right (within ℓ (get_or f.gates m no_gate).pair.pc) (leads ℓ n m f (omega arith) e))
    (either (eqb n m))
  where
    right : (a : Bool) {b : Bool} → b ≡ true → (a || b) ≡ true
    right true e = refl
    right false e = e

-- A call that is empty is no upcall.
empty_upcall : (x : Call) → is_empty x ≡ true → is_upcall x ≡ false
empty_upcall Empty e = refl
empty_upcall (Gate k q) e = clash refl (sym e)
empty_upcall (Upcall k q t) e = clash refl (sym e)

module _ (ℓ : ℕ) (s : State) where
  -- A change that is a gate call to within, from outside.
  large_change : {ticks : ℕ} {c : Change} (k : ℕ) → LegalChange s ticks c → calls_gate (carry ticks c) ≡ true
      → within ℓ s.control.pair.pc ≡ false → within ℓ (changed s.control k c).pair.pc ≡ true → at_large ℓ s ≡ true
  unfolding at_large changed in_upcall
  large_change k (writes h) g o i = clash refl (sym g)
  large_change k goes g o i = clash refl (sym g)
  large_change k (enters v x y) g o i = clash refl (sym g)
  large_change k (calls h) g o i = clash refl (sym g)
  large_change k (gates h) g o i =
      rw (
        o,
        empty_upcall (newest s.control) h.empty,
        leads ℓ h.number s.fixed.count s.fixed h.below (rw h.listed i),
      )
  large_change k (returns x y) g o i = clash refl (sym g)
  large_change k (stops n) g o i = clash refl (sym g)

  -- A decision that is one.
  pub large : {d : Decision} → Legal s d → calls_gate d ≡ true → within ℓ s.control.pair.pc ≡ false
      → within ℓ (control_after s d).pair.pc ≡ true → at_large ℓ s ≡ true
  unfolding control_after
  large (rests r) g o i = clash refl (sym g)
  large (spends r h) g o i = clash refl (sym g)
  large (stalls r n a b) g o i = clash refl (sym g)
  large (closes r u c l) g o i = clash refl (sym g)
  large (carries r long lim u h) g o i = large_change _ h g o i

-- ---- the provisos of a step

-- A state that breaks nothing is not at large, and has its timing label within where its pc label is.
pub unbroken : (ℓ : ℕ) (s : State) → breaks ℓ s ≡ false → (at_large ℓ s ≡ false) × (timed_from_outside ℓ s ≡ false)
unfolding breaks
unbroken ℓ s e = (or_iff _ _).0 e

pub step_provisos : (ℓ : ℕ) (s : State) → Ready s → attempts ℓ s ≡ false → at_large ℓ s ≡ false
    → timed_from_outside ℓ (step s) ≡ false → StepProvisos ℓ s (step s)
unfolding gate_calls_in
step_provisos ℓ s r a b t = record { downgrade = no_downgrade_lem ℓ s r a; gate = no_gate_lem; timing = t }
  where
    go : (x y z : Bool) → calls_gate (decide s) ≡ x → within ℓ s.control.pair.pc ≡ y
        → within ℓ (step s).control.pair.pc ≡ z → (x && not y && z) ≡ false
    go true true z g o i = refl
    go true false true g o i =
        clash (large ℓ s (legal s r) g o (ap (λ (c : Control). within ℓ c.pair.pc) (sym (step_control s)) ∙ i)) b
    go true false false g o i = refl
    go false y z g o i = refl

    no_gate_lem : gate_calls_in ℓ s (step s) ≡ false
    no_gate_lem =
        go (calls_gate (decide s)) (within ℓ s.control.pair.pc) (within ℓ (step s).control.pair.pc) refl refl refl
