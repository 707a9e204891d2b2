-- Laws about a decision applied, to the control while the machine runs and to the registers: the second stage of the
-- model's step does the same.
-- Assumes nothing.
use Rattle.std.proofs.Common.{◌≡◌, ℕ, ◌+◌, ◌%◌, ◌^◌, ◌<◌, Bool, true, false, cond, ◌⊎◌, List, get_or, set, sym, refl, ap, ◌∙◌, inl, inr, ⊎_elim, mod-eq_of_lt, arith, lt-ltb}
use mathlib.Core.Bool.{or-false}
use Rattle.labels.specs.Label.{flows}
use Rattle.model.specs.declared.Pair.{Pair}
use Rattle.model.specs.declared.Fixed.{Fixed}
use Rattle.model.specs.declared.Call.{Call}
use Rattle.model.specs.declared.Call.TheVariants.{Empty, Gate, Upcall}
use Rattle.model.specs.Record.{state_from, register, label_at, is_empty, is_gate, is_upcall}
use Rattle.model.specs.Ops.{nothing, value}
use Rattle.model.specs.Step as model
use Rattle.model.proofs.Truth.{clash}
use Rattle.parts.specs.declared.live.Live.{Live}
use Rattle.parts.specs.declared.stages.Change.{Change}
use Rattle.parts.specs.declared.stages.Change.TheVariants.{Pass, SetLabel, Goto, Enter, OpenUpcall, OpenGate, CloseGate, Stop}
use Rattle.parts.specs.declared.stages.Decision.{Decision}
use Rattle.parts.specs.declared.stages.Decision.TheVariants.{Spend, Stall, Close, Carry}
use Rattle.parts.specs.Live.{call_of, frame_of, control_of, Stacked}
use Rattle.parts.specs.Stages.{change_of, Fits, Applies}
use Rattle.parts.proofs.Frames.{frame_held, frame_tidy, empty_is, gate_full, upcall_full, newest_is}
use Rattle.transitions.specs.Transitions.{entered, restored, ended, next, changed, closing_tick, control_after, labelled, written_back}
use Rattle.transitions.specs.Inner.Meaning.{Changed, After, Wrote}

-- ---- the open calls

-- They are stacked still where only the rest changes.
kept : {l : Live} {clock pc end why : ℕ} {pair : Pair} → Stacked l → Stacked (entered (ended l clock end why) clock pc pair)
kept h = record { newest = h.newest; older = h.older; under = h.under }

module _ {l : Live} (h : Stacked l) where
  -- There is no older call, or it is a gate call under an upcall.
  by_older : {P : Type 0} → (is_empty (call_of l.older) ≡ true → P)
      → (is_gate (call_of l.older) ≡ true → is_upcall (call_of l.newest) ≡ true → P) → P
  by_older none gate =
      ⊎_elim none (λ (e : (is_gate (call_of l.older) ≡ true) × (is_upcall (call_of l.newest) ≡ true)). gate e.0 e.1) h.under

  -- The older call is never an upcall.
  older_plain : is_upcall (call_of l.older) ≡ false
  older_plain = by_older (λ e. ap is_upcall (empty_is (call_of l.older) e)) (λ g u. plain (call_of l.older) g)
    where
      plain : (c : Call) → is_gate c ≡ true → is_upcall c ≡ false
      plain Empty e = refl
      plain (Gate k q) e = refl
      plain (Upcall k q t) e = sym e

  -- What is left in the first place, once the newest call is closed.
  first_left : cond (is_empty (control_of l).second) Empty (control_of l).first ≡ call_of l.older
  first_left =
      by_older (λ e. rw e (sym (empty_is (call_of l.older) e)))
      (λ g u. simp (gate_full (call_of l.older) g, upcall_full (call_of l.newest) u))

  -- Where the newest call is no upcall, it is the only one, if there is one.
  lone : is_upcall (call_of l.newest) ≡ false → is_empty (call_of l.older) ≡ true
  lone n = by_older (λ e. e) (λ g u. clash u n)

  -- The newest call closed: the older is on top then, and none under it.
  restored_is : (clock : ℕ) → control_of (restored l clock) ≡ model.restored (control_of l) clock
  unfolding model.restored
  restored_is clock = rw (frame_held Empty, newest_is l, h.newest.back, h.newest.pair, first_left)

  -- They are stacked then too.
  restored_stacked : (clock : ℕ) → Stacked (restored l clock)
  restored_stacked clock =
      record { newest = h.older; older = frame_tidy Empty; under = inl (ap is_empty (frame_held Empty)) }

-- A call that is no upcall can lie under one.
may_lie : (x y : Call) → is_upcall x ≡ false → is_upcall y ≡ true → (is_empty x ≡ true) ⊎ ((is_gate x ≡ true) × (is_upcall y ≡ true))
may_lie Empty y e f = inl refl
may_lie (Gate k q) y e f = inr (refl, f)
may_lie (Upcall k q t) y e f = clash refl e

-- ---- a change

-- A change that leaves the open calls.
stays : {l : Live} {change : Change} {clock pc end why : ℕ} {pair : Pair} → Stacked l
    → control_of (entered (ended l clock end why) clock pc pair) ≡ model.changed (control_of l) clock (change_of change)
    → Changed l clock change (entered (ended l clock end why) clock pc pair)
stays h e = record { is = e; stacked = kept h; timely = λ t. t; then = refl }

-- A change that fits does what the model's does.
changes : (l : Live) (clock : ℕ) (change : Change) → Stacked l → Fits change l clock → Changed l clock change (changed l clock change)
unfolding changed model.changed
changes l clock Pass h w = stays h (rw (mod-eq_of_lt w))
changes l clock (SetLabel a x) h w = stays h (rw (mod-eq_of_lt w.1))
changes l clock (Goto k) h w = stays h refl
changes l clock (Enter q) h w = stays h (rw (mod-eq_of_lt w))
changes l clock (OpenUpcall k q e) h w =
    let call = Upcall k l.pair e in
    let held = frame_held call in
    record {
      is = rw (held, lone h w.1, mod-eq_of_lt w.0, or-false (is_empty (call_of l.newest)));
      stacked =
          record {
            newest = frame_tidy call;
            older = h.newest;
            under = may_lie (call_of l.newest) (call_of (frame_of call)) w.1 (ap is_upcall held);
          };
      timely = λ t u. w.2;
      then = refl;
    }
changes l clock (OpenGate k q) h w =
    let call = Gate (next l) l.pair in
    let held = frame_held call in
    record {
      is = rw (held, lone h (ap is_upcall (empty_is (call_of l.newest) w.1)), w.1, mod-eq_of_lt w.0);
      stacked = record { newest = frame_tidy call; older = h.newest; under = inl w.1 };
      timely = λ t u. clash u (ap is_upcall held);
      then = refl;
    }
changes l clock CloseGate h w =
    record {
      is = restored_is h clock;
      stacked = restored_stacked h clock;
      timely = λ t u. clash u (older_plain h);
      then = refl;
    }
changes l clock Stop h w = stays h refl

-- ---- a decision

-- The control after a decision is the model's. The code's clock has 32 bits, so the limit has to have as many.
pub after : (live : Live) (limit : ℕ) (d : Decision) → limit < 2 ^ 32 → After live limit d (control_after live limit d)
unfolding control_after model.control_after model.end_tick
after live limit Spend b =
    record {
      is = λ h a fixed values labels words marks f. rw f;
      stacked = λ h a. kept h;
      timely = λ h t a z. omega (arith, z);
      limited = λ h a b. omega arith;
      grown = λ h t a z y. omega (arith, y);
    }
after live limit (Stall why) b =
    record {
      is = λ h a fixed values labels words marks f. refl;
      stacked = λ h a. kept h;
      timely = λ h t a z. omega (arith, z);
      limited = λ h a b. b;
      grown = λ h t a z y. omega (arith, y);
    }
after live limit (Close cause) b =
    record {
      is =
          λ h a fixed values labels words marks f.
          restored_is h (closing_tick live.newest limit) ∙ ap (model.restored (control_of live)) (tick a ∙ rw (newest_is live, h.newest.end));
      stacked = λ h a. restored_stacked h (closing_tick live.newest limit);
      timely = λ h t a z u. clash u (older_plain h);
      limited = λ h a b. omega (arith, tick a, a.1);
      grown = λ h t a z y. omega (arith, tick a, t a.0);
    }
  where
    tick : Applies (Close cause) live limit → closing_tick live.newest limit ≡ live.newest.end + 1
    tick a = rw (lt-ltb live.newest.end limit a.1)
after live limit (Carry ticks change) b =
    record {
      is = λ h a fixed values labels words marks f. (carried h a).is;
      stacked = λ h a. (carried h a).stacked;
      timely = λ h t a z. (carried h a).timely a.2;
      limited = λ h a b. omega (arith, (carried h a).then, a.1);
      grown = λ h t a z y. omega (arith, (carried h a).then, a.0);
    }
  where
    carried : Stacked live → Applies (Carry ticks change) live limit
        → Changed live (live.clock + ticks) change (changed live ((live.clock + ticks) % 2 ^ 32) change)
    carried h a =
        let small : live.clock + ticks < 2 ^ 32 = omega (arith, a.1) in
        rw (mod-eq_of_lt small) (changes live (live.clock + ticks) change h a.3)

-- ---- the registers

-- A change that is carried out writes what the model's does.
labels_written : (l : Live) (clock : ℕ) (change : Change) → Fits change l clock
    → (fixed : Fixed) (values labels words marks : List ℕ)
    → model.written (state_from fixed (control_of l) values labels words marks) (model.change_write (change_of change))
    ≡ state_from fixed (control_of l) values (labelled change labels) words marks
unfolding model.written
labels_written l clock Pass w fixed values labels words marks = refl
labels_written l clock (SetLabel a x) w fixed values labels words marks = rw (mod-eq_of_lt w.0)
labels_written l clock (Goto k) w fixed values labels words marks = refl
labels_written l clock (Enter q) w fixed values labels words marks = refl
labels_written l clock (OpenUpcall k q e) w fixed values labels words marks = refl
labels_written l clock (OpenGate k q) w fixed values labels words marks = refl
labels_written l clock CloseGate w fixed values labels words marks = refl
labels_written l clock Stop w fixed values labels words marks = refl

-- The registers after a decision are the model's.
pub wrote : (d : Decision) (live : Live) (values labels : List ℕ)
    → let b = written_back d live (record { values = values; labels = labels }) in
    Wrote d live values labels b.values b.labels
unfolding written_back model.written model.write_of model.cause_write model.cause_allowed label_at
wrote Spend live values labels = record { is = λ limit a fixed words marks. refl }
wrote (Stall why) live values labels = record { is = λ limit a fixed words marks. refl }
wrote (Close cause) live values labels =
    record { is = λ limit a fixed words marks. go fixed words marks (flows live.pair.timing (get_or labels 15 0)) }
  where
    go : (fixed : Fixed) (words marks : List ℕ) (b : Bool)
        → model.written (state_from fixed (control_of live) values labels words marks) (cond b (value (register 15) cause) nothing)
        ≡ state_from fixed (control_of live) (cond b (set values 15 cause) values) labels words marks
    go fixed words marks true = refl
    go fixed words marks false = refl
wrote (Carry ticks change) live values labels =
    record {
      is = λ limit a fixed words marks. labels_written live (live.clock + ticks) change a.3 fixed values labels words marks;
    }
