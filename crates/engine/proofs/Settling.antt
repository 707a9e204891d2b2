-- Laws about what the model decides where the hot loop did an op or stopped.
-- Assumes nothing.
use Prim.Native.Nat.{ℕ, ◌+◌, ◌≤◌, ◌<◌}
use mathlib.Core.Path.{◌≡◌, refl, sym, ap, ◌∙◌}
use mathlib.Core.Logic.{◌⊎◌, inl, inr, ⊎_elim}
use mathlib.Core.Bool.{Bool, true, false, ◌&&◌, ◌||◌, cond, and-false}
use native.Mathlib.Omega.{arith}
use lib.Dec.{ltb, eqb}
use borrow.Author.Tests.{eq-eqb, lt-ltb, ltb-true, ltb-false}
use Rattle.model.specs.Numbers.{unknown_op, by_failure}
use Rattle.model.specs.Record.{State, in_upcall}
use Rattle.model.specs.Word.{Op}
use Rattle.model.specs.Ops.{Change, Effect, does, ends, Row, table}
use Rattle.model.specs.Step.{Fetched, failed, fetched, Decision, rest, spend, stall, close, carry, fetch, end_tick, finish, fault, passed, attempt, in_time, plan, beyond_limit, in_limit, running, decide, is_carried}
use Rattle.model.proofs.Truth.{choice, either, clash, and_iff, or_iff}
use Rattle.parts.specs.declared.stages.Reason.{Reason}
use Rattle.parts.specs.declared.stages.Reason.TheVariants.{Out, Late, Outside, Unreadable, Failed, Rest}
use Rattle.parts.specs.Calls.{deadline_of}
use Rattle.parts.specs.Stages.{is_common_op, fetches_common, late_of, plan_for}
use Rattle.sprint.specs.Skim.{is_common}
use Rattle.sprint.specs.Sprint.{Overdue, Stopped}

-- A choice between one thing and itself.
same_cond {ℓ} : {A : Type ℓ} (b : Bool) (x : A) → cond b x x ≡ x
same_cond true x = refl
same_cond false x = refl

-- A running state decides by its plan.
pub running_decides : (s : State) → s.control.end ≡ 0 → decide s ≡ in_limit s (plan s (fetch s))
unfolding decide running
running_decides s e = rw (eq-eqb s.control.end 0 e)

-- ---- the ticks of a common op that is done

-- The limit leaves nothing of what isn't carried out that is.
not_done : (s : State) (d : Decision) → is_carried d ≡ false → is_carried (in_limit s d) ≡ false
unfolding in_limit
not_done s d e = choice (λ (x : Decision). is_carried x ≡ false) (beyond_limit s d) _ _ (λ b. refl) (λ b. e)

-- What it leaves as carried out was so before.
limit_carried : (s : State) (d : Decision) → is_carried (in_limit s d) ≡ true → in_limit s d ≡ d
unfolding in_limit
limit_carried s d e =
    ⊎_elim (λ (b : beyond_limit s d ≡ true). clash (rw b at e) refl) (λ (b : beyond_limit s d ≡ false). rw b) (either (beyond_limit s d))

-- The change is carried out in so many ticks.
abbrev Takes : ℕ → Decision → Type 0
Takes ticks rest = Unit
Takes ticks spend = Unit
Takes ticks (stall why) = Unit
Takes ticks (close cause) = Unit
Takes ticks (carry k change) = k ≡ ticks

passed_takes : (ticks : ℕ) (effect : Effect) → Takes ticks (passed ticks effect)
passed_takes ticks (does change) = refl
passed_takes ticks ends = tt

-- An op that is carried out takes the ticks of its row.
attempt_takes : (s : State) (r : Row) → Takes r.ticks (attempt s r)
unfolding attempt
attempt_takes s r =
    choice (Takes r.ticks) r.check _ _ (λ e. passed_takes r.ticks r.effect)
    (λ e. choice (Takes r.ticks) (r.strict && in_upcall s.control) _ _ (λ f. tt) (λ f. refl))

in_time_takes : (s : State) (ticks : ℕ) (d : Decision) → Takes ticks d → Takes ticks (in_time s d)
in_time_takes s ticks rest h = tt
in_time_takes s ticks spend h = tt
in_time_takes s ticks (stall why) h = tt
in_time_takes s ticks (close cause) h = tt
in_time_takes s ticks (carry k change) h =
    choice (Takes ticks) (in_upcall s.control && ltb (end_tick s) (s.control.clock + k)) _ _ (λ e. tt) (λ e. h)

-- A step that does a common op: its word, and the decision.
pub record Common (s : State) : Type 0 where
  pub word : ℕ
  pub op : Op
  pub ticks : ℕ
  pub change : Change
  pub fetches : fetch s ≡ fetched word op
  pub common : is_common_op op ≡ true
  pub decides : decide s ≡ carry ticks change
  pub long : ticks ≡ (table s word op).ticks

pub common_of : (s : State) → s.control.end ≡ 0 → is_common s ≡ true → Common s
unfolding is_common
common_of s r e = go (fetch s) refl (decide s) refl
  where
    both : (is_carried (decide s) ≡ true) × (fetches_common (fetch s) ≡ true)
    both = (and_iff (is_carried (decide s)) (fetches_common (fetch s))).0 e

    go : (f : Fetched) → fetch s ≡ f → (d : Decision) → decide s ≡ d → Common s
    go (failed why) q d g = clash both.1 (ap fetches_common q)
    go (fetched w op) q rest g = clash both.0 (ap is_carried g)
    go (fetched w op) q spend g = clash both.0 (ap is_carried g)
    go (fetched w op) q (stall why) g = clash both.0 (ap is_carried g)
    go (fetched w op) q (close cause) g = clash both.0 (ap is_carried g)
    go (fetched w op) q (carry ticks change) g =
        let p : in_limit s (plan s (fetch s)) ≡ carry ticks change = sym (running_decides s r) ∙ g in
        let k : in_limit s (plan s (fetch s)) ≡ plan s (fetch s) = limit_carried s (plan s (fetch s)) (ap is_carried p) in
        let m : in_time s (attempt s (table s w op)) ≡ carry ticks change = ap (plan s) (sym q) ∙ sym k ∙ p in
        record {
          word = w;
          op = op;
          ticks = ticks;
          change = change;
          fetches = q;
          common = ap fetches_common (sym q) ∙ both.1;
          decides = g;
          long = rw m at (in_time_takes s (table s w op).ticks (attempt s (table s w op)) (attempt_takes s (table s w op)));
        }

-- ---- an op past the deadline

module _ (s : State) {deadline : ℕ} (r : s.control.end ≡ 0) (o : Overdue s deadline) where
  tried : plan s (fetch s) ≡ in_time s (carry o.ticks o.change)
  tried = ap (plan s) o.fetches ∙ ap (in_time s) o.tries

  -- It is too late for its upcall.
  abbrev too_late : Bool
  too_late = in_upcall s.control && ltb (end_tick s) (s.control.clock + o.ticks)

  -- Then the upcall is closed.
  late_closes : too_late ≡ true → in_limit s (late_of s) ≡ decide s
  late_closes e = sym (running_decides s r ∙ ap (in_limit s) (tried ∙ rw (e, ((and_iff (in_upcall s.control) _).0 e).0)))

  -- Else it would be carried out, but for the limit.
  late_carries : too_late ≡ false → decide s ≡ in_limit s (carry o.ticks o.change)
  late_carries e = running_decides s r ∙ ap (in_limit s) (tried ∙ rw e)

  -- It is in time for its upcall: the deadline is the tick.
  past_tick : (k : ℕ) → deadline ≡ deadline_of (in_upcall s.control) (end_tick s) k → too_late ≡ false
      → (k < s.control.clock + o.ticks) × (in_upcall s.control ≡ true → k ≤ end_tick s)
  past_tick k d e = go (in_upcall s.control) refl
    where
      go : (b : Bool) → in_upcall s.control ≡ b → (k < s.control.clock + o.ticks) × (in_upcall s.control ≡ true → k ≤ end_tick s)
      go false u = (omega (arith, o.past, (rw u at d)), λ t. clash t u)
      go true u =
          ⊎_elim
          (λ (l : ltb (end_tick s) k ≡ true).
          let x : deadline ≡ end_tick s = d ∙ rw (u, l) in
          let y : s.control.clock + o.ticks ≤ end_tick s = ltb-false (end_tick s) (s.control.clock + o.ticks) (rw u at e) in
          absurd (omega (arith, o.past, x, y)))
          (λ (l : ltb (end_tick s) k ≡ false).
          let x : deadline ≡ k = d ∙ rw (u, l) in
          (omega (arith, o.past, x), λ t. ltb-false (end_tick s) k l))
          (either (ltb (end_tick s) k))

  -- Where the tick is before the limit, both that and what is done for a late op finish past it.
  late_past : (k : ℕ) → k < s.fixed.limit → deadline ≡ deadline_of (in_upcall s.control) (end_tick s) k → too_late ≡ false
      → (k < finish s (decide s)) × (k < finish s (in_limit s (late_of s)))
  unfolding finish in_limit
  late_past k l d e =
      let h = past_tick k d e in (
        rw (late_carries e) (past_limit (carry o.ticks o.change) h.0),
        past_limit (late_of s)
            (choice (λ (x : Decision). k < finish s x) (in_upcall s.control) _ _ (λ u. omega (arith, h.1 u)) (λ u. l)),
      )
    where
      past_limit : (x : Decision) → k < finish s x → k < finish s (in_limit s x)
      past_limit x h = choice (λ (y : Decision). k < finish s y) (beyond_limit s x) _ _ (λ b. l) (λ b. h)

  -- Where it is the limit, what is done for a late op is what the state decides.
  late_spends : deadline ≡ deadline_of (in_upcall s.control) (end_tick s) s.fixed.limit → too_late ≡ false → in_limit s (late_of s) ≡ decide s
  unfolding in_limit beyond_limit finish
  late_spends d e =
      let h = past_tick s.fixed.limit d e in
      choice (λ (x : Decision). in_limit s x ≡ decide s) (in_upcall s.control) _ _
      (λ u. rw (lt-ltb s.fixed.limit (end_tick s + 1) (omega (arith, h.1 u))) (sym (spends h.0)))
      (λ u. same_cond (ltb s.fixed.limit s.fixed.limit || eqb s.control.clock s.fixed.limit) spend ∙ sym (spends h.0))
    where
      spends : s.fixed.limit < s.control.clock + o.ticks → decide s ≡ spend
      spends q = late_carries e ∙ rw (lt-ltb s.fixed.limit (s.control.clock + o.ticks) q)

-- ---- where the hot loop has stopped

-- What is planned for the reason is what the state decides; or that and this both finish past the tick k.
abbrev pub Settles : ℕ → Reason → State → Type 0
Settles k reason s =
    (in_limit s (plan_for reason s) ≡ decide s) ⊎ ((k < finish s (decide s)) × (k < finish s (in_limit s (plan_for reason s))))

-- What fails in an upcall closes it.
fault_up : (s : State) (why : ℕ) → in_upcall s.control ≡ true → fault s why ≡ close by_failure
unfolding fault
fault_up s why u = rw u

-- The deadline is that of the tick k, which is the limit or before it.
pub settles : (k : ℕ) (reason : Reason) (s : State) {deadline : ℕ} → k ≤ s.fixed.limit → s.control.end ≡ 0
    → (reason ≡ Late → deadline ≡ deadline_of (in_upcall s.control) (end_tick s) k) → Stopped reason deadline s → Settles k reason s
settles k Out s near r d h = absurd h
settles k Late s near r d h =
    ⊎_elim (λ (e : too_late s r h ≡ true). inl (late_closes s r h e))
    (λ (e : too_late s r h ≡ false).
    ⊎_elim (λ (l : ltb k s.fixed.limit ≡ true). inr (late_past s r h k (ltb-true k s.fixed.limit l) (d refl) e))
    (λ (l : ltb k s.fixed.limit ≡ false).
    let q : k ≡ s.fixed.limit = omega (arith, ltb-false k s.fixed.limit l) in
    inl (late_spends s r h (d refl ∙ ap (deadline_of (in_upcall s.control) (end_tick s)) q) e))
    (either (ltb k s.fixed.limit)))
    (either (too_late s r h))
settles k Outside s near r d h = inl (sym (running_decides s r ∙ ap (λ (f : Fetched). in_limit s (plan s f)) h))
settles k Unreadable s near r d h = inl (sym (running_decides s r ∙ ap (λ (f : Fetched). in_limit s (plan s f)) h))
settles k Failed s near r d h = inl (ap (in_limit s) (fault_up s unknown_op h.2 ∙ sym h.0) ∙ sym (running_decides s r))
settles k (Rest w) s near r d h =
    inl (rw h.op (sym (running_decides s r ∙ ap (λ (f : Fetched). in_limit s (plan s f)) h.word)))

-- A late op isn't carried out.
late_not_done : (s : State) → is_carried (late_of s) ≡ false
late_not_done s = choice (λ (x : Decision). is_carried x ≡ false) (in_upcall s.control) _ _ (λ b. refl) (λ b. refl)

-- What is held against the limit finishes by it.
pub finish_in_limit : (s : State) (d : Decision) → finish s (in_limit s d) ≤ s.fixed.limit
unfolding in_limit beyond_limit finish
finish_in_limit s d =
    choice (λ (x : Decision). finish s x ≤ s.fixed.limit)
    (ltb s.fixed.limit (finish s d) || eqb s.control.clock s.fixed.limit) _ _ (λ b. omega arith)
    (λ b. ltb-false s.fixed.limit (finish s d) ((or_iff (ltb s.fixed.limit (finish s d)) (eqb s.control.clock s.fixed.limit)).0 b).0)

-- There the next step does no common op.
pub stopped_uncommon : (reason : Reason) (s : State) {deadline : ℕ} → s.control.end ≡ 0
    → (reason ≡ Late → deadline ≡ deadline_of (in_upcall s.control) (end_tick s) s.fixed.limit) → Stopped reason deadline s
    → is_common s ≡ false
unfolding is_common
stopped_uncommon Out s r d h = absurd h
stopped_uncommon Late s r d h =
    ⊎_elim (λ (same : in_limit s (late_of s) ≡ decide s). rw (← same, not_done s (late_of s) (late_not_done s)))
    (λ both. absurd (omega (arith, both.1, finish_in_limit s (late_of s))))
    (settles s.fixed.limit Late s (omega arith) r d h)
stopped_uncommon Outside s r d h = rw (h, and-false)
stopped_uncommon Unreadable s r d h = rw (h, and-false)
stopped_uncommon Failed s r d h = rw (running_decides s r, h.0, not_done s (close by_failure) refl)
stopped_uncommon (Rest w) s r d h = rw (h.word, h.op, and-false)
