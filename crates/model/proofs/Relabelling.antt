-- A step that sets a label: the op that was fetched passed its check, sets that label, and was carried out.
-- Assumes nothing.
use Prim.Native.Nat.{ℕ}
use mathlib.Core.Path.{◌≡◌, refl, sym, ap, ◌∙◌, subst}
use mathlib.Core.Bool.{Bool, true, false, ◌&&◌, cond}
use lib.Dec.{eqb}
use Rattle.model.specs.Record.{State, Location, register, in_upcall}
use Rattle.model.specs.Word.{Op}
use Rattle.model.specs.Ops.{Write, nothing, value, label, Change, write, goto, enter, open_upcall, open_gate, close_gate, stop, Effect, does, ends, Row, table}
use Rattle.model.specs.Step.{Fetched, failed, fetched, fetch, Decision, rest, spend, stall, close, carry, fault, passed, attempt, plan, beyond_limit, in_limit, running, decide, cause_allowed, cause_write, change_write, write_of}
use Rattle.model.proofs.Visible.{late, in_time_late}

-- A write that sets no label.
abbrev pub Plain : Write → Type 0
Plain nothing = Unit {0}
Plain (value x v) = Unit {0}
Plain (label x l) = ⊥

-- It is none that does.
plain_label : {w : Write} {x : Location} {l : ℕ} → Plain w → w ≡ label x l → ⊥
plain_label h e = subst Plain e h

-- Two writes of a label that are one.
pub same_label : {x y : Location} {l m : ℕ} → label x l ≡ label y m → (x ≡ y) × (l ≡ m)
same_label e = ((cc), (cc))

-- What an effect writes.
abbrev pub effect_write : Effect → Write
effect_write (does c) = change_write c
effect_write ends = nothing

-- A step sets the label of a location, of either kind: the op that it fetched, and what its row says.
pub record Relabelling (s : State) (x : Location) (l : ℕ) : Type 0 where
  pub word : ℕ
  pub op : Op
  pub fetched : fetch s ≡ fetched word op
  pub check : (table s word op).check ≡ true
  pub effect : (table s word op).effect ≡ does (write (label x l))
  pub decided : decide s ≡ carry (table s word op).ticks (write (label x l))

module _ (s : State) where
  -- A cause is a value.
  plain_cause : (k : ℕ) → Plain (cause_write s k)
  unfolding cause_write
  plain_cause k = go (cause_allowed s)
    where
      go : (b : Bool) → Plain (cond b (value (register 15) k) nothing)
      go true = tt
      go false = tt

  -- A failed fetch.
  plain_fault : (why : ℕ) → Plain (write_of s (fault s why))
  unfolding fault write_of
  plain_fault why = go (in_upcall s.control) (eqb s.control.pc s.fixed.errorpc)
    where
      go : (b c : Bool) → Plain (write_of s (cond b (close 3) (cond c (stall why) (carry 1 (goto s.fixed.errorpc)))))
      go true c = plain_cause 3
      go false true = tt
      go false false = tt

  module _ {x : Location} {l : ℕ} where
    -- A change that sets a label is a write.
    set_change : (c : Change) → change_write c ≡ label x l → c ≡ write (label x l)
    set_change (write w) e = ap write e
    set_change (goto k) e = absurd (plain_label {w = nothing} tt e)
    set_change (enter q) e = absurd (plain_label {w = nothing} tt e)
    set_change (open_upcall k q t) e = absurd (plain_label {w = nothing} tt e)
    set_change (open_gate g) e = absurd (plain_label {w = nothing} tt e)
    set_change close_gate e = absurd (plain_label {w = nothing} tt e)
    set_change stop e = absurd (plain_label {w = nothing} tt e)

    -- An op that was tried, and set a label.
    set_row : (r : Row) → write_of s (attempt s r) ≡ label x l
        → (r.check ≡ true) × (r.effect ≡ does (write (label x l))) × (attempt s r ≡ carry r.ticks (write (label x l)))
    unfolding attempt write_of
    set_row r e = go r.check r.effect (r.strict && in_upcall s.control) e
      where
        tried : Bool → Effect → Bool → Decision
        tried b f c = cond b (passed r.ticks f) (cond c (close 3) (carry r.ticks (write nothing)))

        go : (b : Bool) (f : Effect) (c : Bool) → write_of s (tried b f c) ≡ label x l
            → (b ≡ true) × (f ≡ does (write (label x l))) × (tried b f c ≡ carry r.ticks (write (label x l)))
        go true (does d) c e = let k = set_change d e in (refl, ap does k, ap (carry r.ticks) k)
        go true ends c e = absurd (plain_label (plain_cause 1) e)
        go false f true e = absurd (plain_label (plain_cause 3) e)
        go false f false e = absurd (plain_label {w = nothing} tt e)

    -- What was fetched.
    set_plan : (f : Fetched) → fetch s ≡ f → decide s ≡ plan s f → write_of s (plan s f) ≡ label x l → Relabelling s x l
    unfolding write_of
    set_plan (failed why) f d e = absurd (plain_label (plain_fault why) e)
    set_plan (fetched w op) f d e = go (late s a) (d ∙ in_time_late s a) (ap (write_of s) (sym (in_time_late s a)) ∙ e)
      where
        a : Decision
        a = attempt s (table s w op)

        go : (b : Bool) → decide s ≡ cond b (close 2) a → write_of s (cond b (close 2) a) ≡ label x l → Relabelling s x l
        go true d e = absurd (plain_label (plain_cause 2) e)
        go false d e =
            let r = set_row (table s w op) e in
            record { word = w; op = op; fetched = f; check = r.0; effect = r.1; decided = d ∙ r.2 }

    -- A step that sets a label.
    pub relabelling : write_of s (decide s) ≡ label x l → Relabelling s x l
    unfolding decide in_limit write_of
    relabelling e = go (running s) (beyond_limit s (plan s (fetch s))) refl e
      where
        go : (b c : Bool) → decide s ≡ cond b (cond c spend (plan s (fetch s))) rest
            → write_of s (cond b (cond c spend (plan s (fetch s))) rest) ≡ label x l → Relabelling s x l
        go true true d e = absurd (plain_label {w = nothing} tt e)
        go true false d e = set_plan (fetch s) refl d e
        go false c d e = absurd (plain_label {w = nothing} tt e)
