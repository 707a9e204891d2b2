-- An outsider can't steer a release. Where a step makes something secret not secret, s lies within c of the old label, that
-- within its i, for it is sound, and that within i of p, which flows to it. So both are trusted where s isn't within j, and so
-- is all that flows to p: the fetched word, and the register that the new label is read from.
-- Assumes nothing.
use Prim.Native.Nat.{ℕ}
use mathlib.Core.Path.{◌≡◌, refl, sym, ap, ◌∙◌, subst}
use mathlib.Core.Bool.{Bool, true, false, cond}
use Rattle.principals.specs.Principals.{subset}
use Rattle.labels.specs.Label.{principals, trusted, secret}
use Rattle.principals.proofs.Laws.{raise_rises, relabel_flows_old, relabel_uncompromised, trusted_below, secret_above, secret_trusted}
use Rattle.model.specs.declared.Control.{Control}
use Rattle.model.specs.Record.{State, Location, value_at, label_at}
use Rattle.model.specs.Word.{Rule, raise, relabel, Op}
use Rattle.model.specs.Ops.{Write, label, Row, allows, table}
use Rattle.model.specs.Step.{fetched, fetch, Decision, attempt, in_time, plan, beyond_limit, in_limit, running, decide, written, write_of, with_control, step}
use Rattle.model.specs.Seen.{exists}
use Rattle.releases.specs.Release.{Runs, SamePoint, Releases, SameRelease, Unsteered}
use Rattle.model.proofs.Truth.{clash}
use Rattle.model.proofs.Writes.{same, label_after_label, label_after_value, value_after_label}
use Rattle.model.proofs.Ready.{Ready, ready}
use Rattle.model.proofs.Legal.{LegalWrite, keeps, sets, marks}
use Rattle.model.proofs.WellFormed.{running_end}
use Rattle.model.proofs.Step.{there, step_write}
use Rattle.model.proofs.Sight as sight
use Rattle.model.proofs.Sight.{Alike, DownSet, inside, exists_size, same_location, seen_equal}
use Rattle.model.proofs.Visible.{Together, Shows, label_set, row_equal, fetch_same, in_time_late, one_control, step_leaves}
use Rattle.model.proofs.Relabelling.{Relabelling, relabelling}

-- ---- the labels

-- The trusted labels are a down-set.
trusted_down : (j : ℕ) → DownSet (trusted j)
trusted_down j = record { below = λ h e. trusted_below j h e }

-- Where a rule makes something secret not secret, the pc label and the old label are trusted. A raise never does.
allowed_trusted : (j s : ℕ) → subset s j ≡ false → (f : Rule) (p l m : ℕ) → allows f p l m ≡ true → secret s l ≡ true
    → secret s m ≡ false → (trusted j p ≡ true) × (trusted j l ≡ true)
allowed_trusted j s o raise p l m e x y = clash (secret_above s (raise_rises principals p l m e) x) y
allowed_trusted j s o relabel p l m e x y =
    let t = secret_trusted principals j s l o (relabel_uncompromised principals p l m e) x in
    (trusted_below j (relabel_flows_old principals p l m e) t, t)

-- ---- a release is a relabelling

-- A fit running record lent whole is ready for its step.
runs_ready : {a : State} → Runs a → Ready a
runs_ready {a} r = ready a r.typed r.fit r.whole

-- What is known of a release: the label that is set, that the pc label and the old label are trusted.
record Released (j : ℕ) (a : State) (x : Location) : Type 0 where
  new : ℕ
  sets : write_of a (decide a) ≡ label x new
  pc : trusted j a.control.pair.pc ≡ true
  old : trusted j (label_at a x) ≡ true

module _ (j s : ℕ) (o : subset s j ≡ false) (a : State) (r : Ready a) (x : Location) (before : secret s (label_at a x) ≡ true) where
  -- No other write makes anything secret not secret.
  released_by : {w : Write} → write_of a (decide a) ≡ w → LegalWrite a w → secret s (label_at (written a w) x) ≡ false
      → Released j a x
  released_by e keeps after = clash before (unfold written in after)
  released_by e (sets {x = y} {v = v} i z h n) after = clash before (sym (ap (secret s) (label_after_value a y x v)) ∙ after)
  released_by e (marks {x = y} {l = l} i z f h n) after =
      go (same y x) refl (sym (ap (secret s) (label_after_label a y x l (there a r y i))) ∙ after)
    where
      go : (b : Bool) → same y x ≡ b → secret s (cond b l (label_at a x)) ≡ false → Released j a x
      go false d after = clash before after
      go true d after =
          let here : y ≡ x = same_location y x d in
          let h' = subst (λ (z : Location). allows f a.control.pair.pc (label_at a z) l ≡ true) here h in
          let t = allowed_trusted j s o f _ _ _ h' before after in
          record { new = l; sets = e ∙ ap (λ (z : Location). label z l) here; pc = t.0; old = t.1 }

released : (j s : ℕ) → subset s j ≡ false → (a : State) → Ready a → (x : Location) → Releases s a x → Released j a x
released j s o a r x h =
    released_by j s o a r x h.before refl (step_write a r) (sym (ap (secret s) (step_leaves a x).0) ∙ h.after)

-- ---- one decision in both

module _ (c : Control) (a b : State) (limit : a.fixed.limit ≡ b.fixed.limit) where
  -- The two states.
  abbrev one : State
  one = with_control a c

  abbrev two : State
  two = with_control b c

  -- What is planned for one decision before the end tick is looked at.
  time_equal : (d : Decision) → in_time one d ≡ in_time two d
  time_equal d = rw (in_time_late one d, in_time_late two d, (one_control c a b limit d).1)

  -- What the limit bars.
  limit_equal : (d : Decision) → in_limit one d ≡ in_limit two d
  unfolding in_limit beyond_limit
  limit_equal d = rw ((one_control c a b limit d).0, limit)

  -- Where one word is fetched, and its row is one, both decide the same.
  decide_equal : (w : ℕ) (op : Op) → fetch one ≡ fetched w op → fetch two ≡ fetched w op → table one w op ≡ table two w op
      → decide one ≡ decide two
  unfolding decide running attempt
  decide_equal w op f g e =
      let same : plan one (fetched w op) ≡ plan two (fetched w op) =
      time_equal (attempt one (table one w op)) ∙ ap (λ (r : Row). in_time two (attempt two r)) e in
      rw (f, g, limit_equal (plan one (fetched w op)), same)

-- ---- the theorem

-- A step that sets a label leaves every value.
value_kept : (s : State) (x y : Location) (l : ℕ) → write_of s (decide s) ≡ label y l → value_at (step s) x ≡ value_at s x
value_kept s x y l e = (step_leaves s x).1 ∙ ap (λ (w : Write). value_at (written s w) x) e ∙ value_after_label s y x l

-- A release under one control, and the step of the other.
module _ {j : ℕ} {c : Control} {a b : State} (h : Together (trusted j) c a b) {x : Location} (k : Released j (with_control a c) x) where
  -- The op that was fetched.
  op : Relabelling (with_control a c) x k.new
  op = relabelling (with_control a c) k.sets

  -- Both decide the same.
  same_decision : decide (with_control a c) ≡ decide (with_control b c)
  same_decision =
      decide_equal c a b h.setting.limit op.word op.op op.fetched (sym (fetch_same h) ∙ op.fetched)
      (row_equal h op.word op.op op.check
      (subst (Shows (trusted j) (with_control a c)) (sym op.effect) (sight.marks k.old)))

  -- The other sets the same label.
  same_write : write_of (with_control b c) (decide (with_control b c)) ≡ label x k.new
  unfolding write_of
  same_write = ap (write_of (with_control b c)) (sym same_decision ∙ op.decided)

  same_release_lem : Ready (with_control a c) → Ready (with_control b c) → exists (with_control a c) x ≡ true
      → SameRelease (with_control a c) (with_control b c) x
  same_release_lem r q e =
      let one = with_control a c in
      let two = with_control b c in
      let entry = seen_equal h.alike x e k.old in
      let there = inside two x (sym (exists_size one two x h.alike.size) ∙ e) in
      record {
        decision = same_decision;
        old = entry.0;
        new = label_set one x k.new r (inside one x e) k.sets ∙ sym (label_set two x k.new q there same_write);
        value = entry.1;
        kept =
            value_kept one x x k.new k.sets ∙ entry.1 ∙ sym (value_kept two x x k.new same_write);
      }

-- Two running records at one point have one control: both have end 0, and why 0.
one_control_at : {a b : State} → Runs a → Runs b → SamePoint a b → a.control ≡ b.control
unfolding running
one_control_at {a} {b} r q p =
    let e = running_end a.control r.runs (runs_ready r).fit.end in
    let f = running_end b.control q.runs (runs_ready q).fit.end in
    rw (p.pc, p.pair, p.clock, p.first, p.second, e.0, e.1, f.0, f.1)

-- The step of the second carries out the same relabelling.
pub unsteered : Unsteered
unsteered j s o a b r q setting point agree x h =
    subst
    (λ (c : Control). Alike (trusted j) a (with_control b c) → Ready (with_control b c) → SameRelease a (with_control b c) x)
    (one_control_at r q point)
    (λ al ready. same_release_lem (together al) k (runs_ready r) ready h.there)
    alike (runs_ready q)
  where
    k : Released j a x
    k = released j s o a (runs_ready r) x h

    alike : Alike (trusted j) a b
    alike = record { size = setting.size; seen = agree }

    together : Alike (trusted j) a (with_control b a.control) → Together (trusted j) a.control a b
    together al = record { down = trusted_down j; pc = k.pc; setting = setting; alike = al }
