-- An attempt to release: what the code looks at is what the model says.
-- Assumes nothing.
use Rattle.std.specs.Prelude.{Option, Some, None}
use Prim.Native.Nat.{ℕ, ◌+◌, ◌<◌, ◌≤◌}
use mathlib.Core.Path.{◌≡◌, refl, sym, ap, ◌∙◌}
use mathlib.Core.Logic.{⊎_elim}
use mathlib.Core.Bool.{Bool, true, false, ◌&&◌, cond, and-false}
use native.Mathlib.Omega.{arith}
use lib.Dec.{leb, ltb, eqb}
use lib.ListN.{get_or}
use borrow.Author.Tests.{leb-true, leb-false, le-leb, lt-leb, ltb-true, ltb-false, lt-ltb, le-ltb, eqb-true, ne_eqb}
use Rattle.labels.specs.Label.{flows}
use Rattle.model.specs.Numbers.{by_spent_time}
use Rattle.model.specs.Record.{State, register, value_at, label_at, in_upcall}
use Rattle.model.specs.Word.{relabel, set_label, op_field, a_field, decode}
use Rattle.model.specs.Ops.{Write, label, nothing, Change, write, does, row, Rb, table}
use Rattle.model.specs.Step.{Decision, fetched, fetch, close, carry, is_carried, end_tick, finish, attempt, in_time, beyond_limit, in_limit, running, decide}
use Rattle.certificates.specs.Certificate.{tries_release, attempts}
use Rattle.model.proofs.Truth.{choice, either, and_three}
use Rattle.parts.specs.Calls.{deadline_of}
use Rattle.engine.specs.Stride.{fetches_relabelling}
use Rattle.engine.proofs.Skimming.{relabels_number}
use Rattle.certify.specs.Inner.Release.{relabels, relabelling_at, tries_with, releases_with, has_time}
use Rattle.certify.proofs.Steady.{keeping_quiet}

-- ---- whether a relabelling has time

-- An op of so many ticks is done where it finishes by the limit.
limit_bars : (s : State) (k : ℕ) (change : Change) → 0 < k
    → is_carried (in_limit s (carry k change)) ≡ leb (s.control.clock + k) s.fixed.limit
unfolding in_limit beyond_limit finish
limit_bars s k change p =
    ⊎_elim
    (λ (e : leb (s.control.clock + k) s.fixed.limit ≡ true).
    let l = leb-true _ _ e in
    rw (e, le-ltb s.fixed.limit (s.control.clock + k) l, ne_eqb s.control.clock s.fixed.limit (omega (arith, l, p))))
    (λ (e : leb (s.control.clock + k) s.fixed.limit ≡ false).
    rw (e, lt-ltb s.fixed.limit (s.control.clock + k) (leb-false _ _ e)))
    (either (leb (s.control.clock + k) s.fixed.limit))

-- What closes an upcall isn't, whatever the limit.
close_barred : (s : State) (cause : ℕ) → is_carried (in_limit s (close cause)) ≡ false
unfolding in_limit
close_barred s cause =
    choice (λ (d : Decision). is_carried d ≡ false) (beyond_limit s (close cause)) _ _ (λ b. refl) (λ b. refl)

-- It is done where it finishes by the deadline.
deadline_bars : (s : State) (k : ℕ) (change : Change) → 0 < k
    → is_carried (in_limit s (in_time s (carry k change)))
    ≡ leb (s.control.clock + k) (deadline_of (in_upcall s.control) (end_tick s) s.fixed.limit)
deadline_bars s k change p = go (in_upcall s.control) refl
  where
    -- In an upcall, by its end tick.
    late : (b : Bool) → ltb (end_tick s) s.fixed.limit ≡ b → end_tick s < s.control.clock + k
        → leb (s.control.clock + k) (cond b (end_tick s) s.fixed.limit) ≡ false
    late true e l = lt-leb (s.control.clock + k) (end_tick s) l
    late false e l = lt-leb (s.control.clock + k) s.fixed.limit (omega (arith, l, ltb-false (end_tick s) s.fixed.limit e))

    timely : (b : Bool) → ltb (end_tick s) s.fixed.limit ≡ b → s.control.clock + k ≤ end_tick s
        → leb (s.control.clock + k) s.fixed.limit ≡ leb (s.control.clock + k) (cond b (end_tick s) s.fixed.limit)
    timely true e l =
        let m = ltb-true (end_tick s) s.fixed.limit e in
        le-leb (s.control.clock + k) s.fixed.limit (omega (arith, l, m)) ∙ sym (le-leb (s.control.clock + k) (end_tick s) l)
    timely false e l = refl

    up : (b : Bool) → ltb (end_tick s) (s.control.clock + k) ≡ b
        → is_carried (in_limit s (cond b (close by_spent_time) (carry k change)))
        ≡ leb (s.control.clock + k) (cond (ltb (end_tick s) s.fixed.limit) (end_tick s) s.fixed.limit)
    up true e = close_barred s by_spent_time ∙ sym (late _ refl (ltb-true _ _ e))
    up false e = limit_bars s k change p ∙ timely _ refl (ltb-false _ _ e)

    go : (b : Bool) → in_upcall s.control ≡ b
        → is_carried (in_limit s (cond (b && ltb (end_tick s) (s.control.clock + k)) (close by_spent_time) (carry k change)))
        ≡ leb (s.control.clock + k) (deadline_of b (end_tick s) s.fixed.limit)
    go false e = limit_bars s k change p
    go true e = up _ refl

-- An op that only writes carries its write out, or where its check fails nothing.
attempt_write : (s : State) (ok : Bool) (x : Write) (k : ℕ)
    → attempt s (row ok (does (write x)) k) ≡ carry k (write (cond ok x nothing))
unfolding attempt
attempt_write s true x k = refl
attempt_write s false x k = refl

module _ (s : State) (w : ℕ) (f : fetch s ≡ fetched w (set_label relabel)) where
  -- It takes two ticks, whether or not its check passes.
  tried : attempt s (table s w (set_label relabel))
      ≡ carry 2 (write (cond (table s w (set_label relabel)).check (label (register (a_field w)) (Rb s w)) nothing))
  unfolding table
  tried = attempt_write s _ _ 2

  -- So it is carried out, or passes by, where it has time.
  carried_time : is_carried (decide s) ≡ has_time s.fixed.limit s.control
  unfolding has_time in_upcall end_tick decide running
  carried_time =
      ⊎_elim
      (λ (e : eqb s.control.end 0 ≡ true). rw (e, f, tried) (deadline_bars s 2 _ (omega arith)))
      (λ (e : eqb s.control.end 0 ≡ false). rw e)
      (either (eqb s.control.end 0))

-- ---- what is fetched

module _ (s : State) where
  -- The word at the pc, its test by the code, and its label.
  abbrev word : ℕ
  word = get_or s.memory.values s.control.pc 0

  abbrev below : Bool
  below = ltb s.control.pc s.fixed.size

  abbrev readable : Bool
  readable = flows (get_or s.memory.labels s.control.pc 0) s.control.pair.pc

  -- It relabels.
  fetch_relabels : below ≡ true → readable ≡ true → relabels word ≡ true → fetch s ≡ fetched word (set_label relabel)
  unfolding fetch value_at label_at decode
  fetch_relabels l r o =
      let n : op_field word ≡ 16 = eqb-true (op_field word) 16 (relabels_number word (op_field word) ∙ o) in rw (l, r, n)

  -- It doesn't, or there is none.
  fetch_keeps : (a b c : Bool) → below ≡ a → readable ≡ b → relabels word ≡ c → (a && b && c) ≡ false
      → fetches_relabelling (fetch s) ≡ false
  unfolding fetch value_at label_at
  fetch_keeps false b c l r o e = rw l
  fetch_keeps true false c l r o e = rw (l, r)
  fetch_keeps true true c l r o e = rw (l, r) (o ∙ e)

-- The op of a word relabels where its number is 16.
pub relabels_with : (w : ℕ) {n : ℕ} {b : Bool} → n ≡ op_field w → eqb n 16 ≡ b → relabels w ≡ b
relabels_with w {n} e f = sym (relabels_number w (op_field w)) ∙ ap (λ (m : ℕ). eqb m 16) (sym e) ∙ f

-- ---- the attempt

attempts_with : (ℓ : ℕ) (s : State)
    → (has_time s.fixed.limit s.control
    && releases_with ℓ s.control.pair.pc
    (relabelling_at s.fixed.size s.control.pc s.control.pair.pc s.memory.values s.memory.labels)
    s.registers.values
    s.registers.labels)
    ≡ attempts ℓ s
unfolding relabelling_at attempts tries_release tries_with value_at label_at
attempts_with ℓ s = go (below s && readable s && relabels (word s)) refl
  where
    go : (b : Bool) → (below s && readable s && relabels (word s)) ≡ b
        → (has_time s.fixed.limit s.control
        && releases_with ℓ s.control.pair.pc (cond b (Some (word s)) None) s.registers.values s.registers.labels)
        ≡ attempts ℓ s
    go true e =
        let h = and_three (below s) (readable s) (relabels (word s)) e in
        let f = fetch_relabels s h.0 h.1 h.2 in
        rw (carried_time s (word s) f, f)
    go false e =
        rw (keeping_quiet ℓ s (fetch_keeps s (below s) (readable s) (relabels (word s)) refl refl refl e), and-false)

-- From what the functions promise.
pub attempted_there : (ℓ : ℕ) (s : State) {time tried : Bool} {found : Option ℕ}
    → found ≡ relabelling_at s.fixed.size s.control.pc s.control.pair.pc s.memory.values s.memory.labels
    → time ≡ has_time s.fixed.limit s.control
    → tried ≡ releases_with ℓ s.control.pair.pc found s.registers.values s.registers.labels
    → (time && tried) ≡ attempts ℓ s
attempted_there ℓ s f t r = rw (r, t, f) (attempts_with ℓ s)
