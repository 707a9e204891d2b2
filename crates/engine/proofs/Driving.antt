-- Laws about the steps that are asked for: what holds whenever the loop's test is reached, and where it ends.
-- Assumes nothing.
use Prim.Native.Nat.{ℕ, zero, suc, ◌+◌, ◌-◌, ◌≤◌, ◌<◌, min}
use mathlib.Core.Path.{◌≡◌, refl, sym, ap, ap₂, ◌∙◌, subst}
use mathlib.Core.Logic.{◌⊎◌, inl, inr, ⊎_elim}
use mathlib.Core.Bool.{Bool, true, false, ◌&&◌, ◌||◌, cond}
use mathlib.Core.List.{List}
use native.Mathlib.Nat.{le_trans}
use native.Mathlib.Omega.{arith}
use lib.Dec.{ltb, eqb, lit≤}
use lib.ListN.{length, get_or}
use borrow.Author.Tests.{eq-eqb, ne_eqb, eqb-true, lt-ltb, le-ltb, ltb-true, ltb-false, le-leb, lt-leb, leb-true}
use Rattle.model.specs.declared.Fixed.{Fixed}
use Rattle.model.specs.declared.Control.{Control}
use Rattle.model.specs.declared.Call.{Call}
use Rattle.model.specs.declared.Call.TheVariants.{Empty, Gate, Upcall}
use Rattle.model.specs.Numbers.{most_words, most_ticks, most_gates}
use Rattle.model.specs.Record.{Bank, State, lent, value_at, state_from, in_upcall, is_upcall, end_tick_of, newest}
use mathlib.Core.Option.{Option, none, some}
use Rattle.model.specs.Word.{op_field, decode, Op, immediate, arithmetic, load, store, branch, jump, read_clock, set_label, set_pair, upcall, end_upcall, gate_call, gate_return, halt}
use Rattle.model.specs.Ops.{table}
use Rattle.model.specs.Step.{Decision as Decides, Fetched, failed, fetched, known, fetch_allowed, finish, finishes_by, fetch, moved, end_tick, in_limit, running, decide, written, write_of, control_after, with_control, apply, step, steps_by, run_to}
use Rattle.model.proofs.Truth.{choice, either, clash, and_iff}
use Rattle.model.proofs.Legal.{ticks_long}
use Rattle.model.proofs.Ready.{whole_lent}
use Rattle.model.proofs.Step.{step_clock, carried_clock, step_ended}
use Rattle.model.proofs.RunTo.{late_stays, timely_goes, ended_stays}
use Rattle.parts.specs.declared.live.Live.{Live}
use Rattle.parts.specs.declared.stages.Reason.{Reason}
use Rattle.parts.specs.declared.stages.Reason.TheVariants.{Out, Late, Outside, Unreadable, Failed, Rest}
use Rattle.parts.specs.declared.stages.Decision.{Decision}
use Rattle.parts.specs.declared.stages.Decision.TheVariants.{Spend, Stall, Close, Carry}
use Rattle.parts.specs.Calls.{newest_of, nearer, deadline_of}
use Rattle.parts.specs.Live.{call_of, control_of, Stacked, Lives}
use Rattle.parts.specs.Stages.{is_common_op, decision_of, plan_for, HasNext, Applies}
use Rattle.parts.proofs.Frames.{newest_is}
use Rattle.turns.specs.declared.Context.{Context}
use Rattle.turns.specs.Turned.{Mirrors}
use Rattle.turns.specs.Ticks.{Timing}
use Rattle.sprint.specs.Skim.{is_common, Skim, skim}
use Rattle.sprint.specs.declared.Pause.{Pause}
use Rattle.sprint.specs.declared.Place.{Place}
use Rattle.sprint.specs.Sprint.{state_with, Timed, Overdue, Stopped, Paused, Ran, Sprinted}
use Rattle.decisions.specs.Decisions.{decided}
use Rattle.transitions.specs.Transitions as transitions
use Rattle.transitions.specs.Transitions.{written_back}
use Rattle.transitions.specs.Inner.Meaning.{Timely, After, Wrote}
use Rattle.transitions.proofs.Applied as applied
use Rattle.pacing.specs.declared.Pace.{Pace}
use Rattle.pacing.specs.declared.Pace.TheVariants.{Once, Onward, Stride}
use Rattle.pacing.specs.Pace.{is_once, is_stride, tick_of, relabels_at}
use Rattle.pacing.specs.Fitting.{is_timely, InRanges}
use Rattle.pacing.specs.SetsLabel.{sets_label}
use Rattle.pacing.proofs.Ticks.{tick_limit, tick_own, tick_here}
use Rattle.pacing.proofs.Keeping.{keeps_labels}
use Rattle.engine.specs.declared.Task.{Task}
use Rattle.engine.specs.Stride.{ends, run_count, strode}
use Rattle.engine.specs.Advance.{paced}
use Rattle.engine.specs.Inner.Drive.{context_of, Alone, finish_of}
use Rattle.engine.proofs.Skimming.{skim_first, skim_behind, skim_stays, ended_uncommon, stopped_relabels, stride_ends, stride_goes, ends_first, ends_there}
use Rattle.engine.proofs.Settling.{Common, common_of, Settles, settles, finish_in_limit, stopped_uncommon}

-- The steps were done.
abbrev pub Driven : Fixed → Task → List ℕ → List ℕ → List ℕ → List ℕ → Control → List ℕ → List ℕ → List ℕ → Type 0
Driven fixed task values labels words marks r values' labels' words' =
    state_from fixed r values' labels' words' marks ≡ paced task.pace (state_from fixed task.start values labels words marks)

-- ---- steps by a tick

-- A state with an end doesn't run.
pub ended : (s : State) → (s.control.end ≡ 0 → ⊥) → running s ≡ false
unfolding running
ended s h = ne_eqb s.control.end 0 h

-- One of some steps that finishes by the tick, and the rest of them.
one_by : (k n : ℕ) (s : State) → 0 < n → finish s (decide s) ≤ k → steps_by k n s ≡ steps_by k (n - 1) (step s)
unfolding finishes_by
one_by k zero s h e = absurd (omega arith)
one_by k (suc n) s h e =
    let m : n ≡ suc n - 1 = omega arith in
    timely_goes k n s (le-leb (finish s (decide s)) k e) ∙ ap (λ (x : ℕ). steps_by k x (step s)) m

-- None, where the next finishes past it.
late_by : (k n : ℕ) (s : State) → k < finish s (decide s) → steps_by k n s ≡ s
unfolding finishes_by
late_by k n s h = late_stays k n s (lt-leb (finish s (decide s)) k h)

-- A step's finish is its clock.
finish_is : (s : State) → finish s (decide s) ≡ (step s).control.clock
finish_is s = sym (step_clock s)

-- ---- common ops, one after the other

-- A step that does one is of a running record.
common_runs : (s : State) → is_common s ≡ true → s.control.end ≡ 0
unfolding is_common decide running
common_runs s c =
    ⊎_elim (λ (e : eqb s.control.end 0 ≡ true). eqb-true s.control.end 0 e)
    (λ (e : eqb s.control.end 0 ≡ false). clash (rw e at c) refl)
    (either (eqb s.control.end 0))

-- What it does.
done : (s : State) → is_common s ≡ true → Common s
done s c = common_of s (common_runs s c) c

common_clock : (s : State) (c : is_common s ≡ true) → (step s).control.clock ≡ s.control.clock + (done s c).ticks
common_clock s c = carried_clock s (done s c).ticks (done s c).change (done s c).decides

-- The clock never falls.
skim_later : (n : ℕ) (s : State) {t : State} → skim n s ≡ record { state = t; left = 0 } → s.control.clock ≤ t.control.clock
unfolding skim
skim_later zero s e = let z = ap (λ (k : Skim). k.state.control.clock) e in omega (arith, z)
skim_later (suc n) s e =
    let h = skim_first n s e in
    let m = skim_later n (step s) h.1 in
    omega (arith, m, common_clock s h.0)

-- So many common ops that end by the tick are as many of the steps by it.
by_skim : (k n count : ℕ) (s : State) {t : State} → skim count s ≡ record { state = t; left = 0 } → count ≤ n → t.control.clock ≤ k
    → steps_by k n s ≡ steps_by k (n - count) t
unfolding skim
by_skim k n zero s e l h =
    let z : n ≡ n - 0 = omega arith in
    ap (λ (x : ℕ). steps_by k x s) z ∙ ap (λ (x : Skim). steps_by k (n - 0) x.state) e
by_skim k n (suc count) s {t} e l h =
    let first = skim_first count s e in
    let later = skim_later count (step s) first.1 in
    let z : n - 1 - count ≡ n - suc count = omega arith in
    one_by k n s (omega (arith, l)) (omega (arith, finish_is s, later, h))
    ∙ by_skim k (n - 1) count (step s) first.1 (omega (arith, l)) h
    ∙ ap (λ (x : ℕ). steps_by k x t) z

-- A common op takes a tick or more.
common_long : (s : State) (w : ℕ) (op : Op) → is_common_op op ≡ true → 0 < (table s w op).ticks
unfolding table
common_long s w immediate c = lit≤ tt
common_long s w (arithmetic f) c = ticks_long f _ _
common_long s w load c = lit≤ tt
common_long s w store c = lit≤ tt
common_long s w (branch f) c = lit≤ tt
common_long s w jump c = lit≤ tt
common_long s w read_clock c = lit≤ tt
common_long s w (set_label f) c = clash refl (sym c)
common_long s w set_pair c = clash refl (sym c)
common_long s w upcall c = clash refl (sym c)
common_long s w end_upcall c = clash refl (sym c)
common_long s w gate_call c = clash refl (sym c)
common_long s w gate_return c = clash refl (sym c)
common_long s w halt c = clash refl (sym c)

-- So by the tick at which the first finishes there is no second.
alone : (count : ℕ) (s : State) {t : State} → skim count s ≡ record { state = t; left = 0 }
    → ((c : is_common s ≡ true) → t.control.clock ≤ s.control.clock + (done s c).ticks) → count ≤ 1
alone zero s e h = omega arith
alone (suc zero) s e h = omega arith
alone (suc (suc n)) s e h =
    let first = skim_first (suc n) s e in
    let second = skim_first n (step s) first.1 in
    let op = done (step s) second.0 in
    let long = common_long (step s) op.word op.op op.common in
    absurd
    (omega (
      arith,
      h first.0,
      common_clock s first.0,
      common_clock (step s) second.0,
      op.long,
      long,
      skim_later n (step (step s)) second.1,
    ))

-- ---- the clock that a decision leaves

-- It is within the limit.
pub finish_limited_by : (d : Decision) (l : Live) (limit : ℕ) → Applies d l limit → l.clock ≤ limit → finish_of d l limit ≤ limit
finish_limited_by Spend l limit a h = omega arith
finish_limited_by (Stall why) l limit a h = h
finish_limited_by (Close cause) l limit a h = omega (arith, a.1)
finish_limited_by (Carry ticks change) l limit a h = a.1

-- ---- the measure

-- The measure of the loop: the ticks to the limit, and one, of a running record.
abbrev pub ticks_left : ℕ → Live → ℕ
ticks_left limit l = cond (eqb l.end 0) (limit + 1 - l.clock) 0

-- It falls where the clock has grown or the record has ended.
pub ticks_fewer : (limit : ℕ) (before after : Live) → before.end ≡ 0 → before.clock ≤ limit → (after.end ≡ 0 → before.clock < after.clock)
    → ticks_left limit after < ticks_left limit before
ticks_fewer limit before after r h g =
    rw (eq-eqb before.end 0 r)
    (choice (λ (x : ℕ). x < limit + 1 - before.clock) (eqb after.end 0) _ _
    (λ e. let l = g (eqb-true after.end 0 e) in omega (arith, l, h)) (λ e. omega (arith, h)))

-- ---- the deadline of a step alone

module _ {deadline size : ℕ} {l : Live} {values turned words : List ℕ} where
  -- The tick at which the op at the pc finishes, or the given one if that is nearer.
  pub alone_nearer : {at ticks r : ℕ} → l.pc < size → at ≡ l.pc → Timing (get_or words at 0) l.pair.timing values turned ticks
      → l.clock ≤ deadline → r ≡ min (l.clock + ticks) deadline → Alone deadline size l values turned words r
  alone_nearer {at} {ticks} {r} i e t c m =
      record {
        near = omega (arith, m);
        later = omega (arith, m, c);
        ticks = ticks;
        timing = λ x. subst (λ (x : ℕ). Timing (get_or words x 0) l.pair.timing values turned ticks) e t;
        which =
            ⊎_elim (λ (x : ltb (l.clock + ticks) deadline ≡ true). inr (omega (arith, m, ltb-true (l.clock + ticks) deadline x)))
            (λ (x : ltb (l.clock + ticks) deadline ≡ false). inl (omega (arith, m, ltb-false (l.clock + ticks) deadline x)))
            (either (ltb (l.clock + ticks) deadline));
        most = λ x. omega (arith, m);
        outside = λ o. absurd (omega (arith, i, o));
      }

  -- The given one where it isn't looked at.
  pub alone_outside : l.clock ≤ deadline → size ≤ l.pc → Alone deadline size l values turned words deadline
  alone_outside c h =
      record {
        near = omega arith;
        later = c;
        ticks = 0;
        timing = λ x. absurd (omega (arith, x, h));
        which = inl refl;
        most = λ x. absurd (omega (arith, x, h));
        outside = λ o. refl;
      }

-- ---- the loop

-- What is left of a run to tick k: so many steps, which are enough.
pub record Runs (k : ℕ) (s₀ s : State) : Type 0 where
  pub count : ℕ
  pub same : paced (Onward k) s₀ ≡ steps_by k count s
  pub enough : s.control.end ≡ 0 → s.fixed.limit + 1 ≤ count + s.control.clock

-- What is left to do from s of what was asked for from s₀: of one step or a stride all.
abbrev pub Remains : Pace → State → State → Type 0
Remains Once s₀ s = s₀ ≡ s
Remains (Onward k) s₀ s = Runs k s₀ s
Remains Stride s₀ s = s₀ ≡ s

-- What holds at the loop's test.
pub record Went (fixed : Fixed) (task : Task) (values₀ labels₀ words₀ marks : List ℕ) (live : Live) (values labels turned words : List ℕ) : Type 0 where
  pub size : fixed.size ≤ most_words
  pub limit : fixed.limit ≤ most_ticks
  pub gates : fixed.count ≤ most_gates
  pub words_lent : fixed.size ≤ length words
  pub marks_lent : fixed.size ≤ length marks
  pub mirrors : Mirrors labels turned
  pub stacked : Stacked live
  pub timely : live.end ≡ 0 → Timely live
  pub clock : live.clock ≤ tick_of task.pace fixed.limit
  pub remains :
      Remains task.pace (state_from fixed task.start values₀ labels₀ words₀ marks)
      (state_from fixed (control_of live) values labels words marks)
  pub long : length words ≡ length words₀

-- At the start.
remains_start : (pace : Pace) (s : State) → s.control.clock ≤ tick_of pace s.fixed.limit → Remains pace s s
unfolding run_to
remains_start Once s h = refl
remains_start (Onward k) s h =
    record {
      count = s.fixed.limit - s.control.clock + 1;
      same = ap (λ (b : Bool). cond b s (run_to k s)) (le-ltb k s.control.clock (le_trans h (tick_own k s.fixed.limit)));
      enough = λ e. omega (arith, h, tick_limit (Onward k) s.fixed.limit);
    }
remains_start Stride s h = refl

-- ---- one turn of the loop

-- What is promised of a decision for a reason to stop.
pub record Decided (reason : Reason) (fixed : Fixed) (live : Live) (values labels : List ℕ) (r : Decision) : Type 0 where
  pub is : (words marks : List ℕ) → decision_of r ≡ decided reason (state_from fixed (control_of live) values labels words marks)
  pub applies : HasNext reason live.pc → Applies r live fixed.limit

-- With a tick left the hot loop paused for a reason.
paused_stopped : (reason : Reason) (left deadline : ℕ) (s : State) → 0 < left → Paused reason left deadline s → Stopped reason deadline s
paused_stopped Out left deadline s h e = absurd (omega (arith, h, e))
paused_stopped Late left deadline s h e = e
paused_stopped Outside left deadline s h e = e
paused_stopped Unreadable left deadline s h e = e
paused_stopped Failed left deadline s h e = e
paused_stopped (Rest w) left deadline s h e = e

-- No common op leads nowhere.
skim_none : (s : State) → skim 0 s ≡ record { state = s; left = 0 }
unfolding skim
skim_none s = refl

-- The step of a state by its decision, its writes and its control.
step_from : (s s' : State) (c : Control) {d : Decides} → d ≡ decide s → written s (write_of s d) ≡ s' → c ≡ control_after s d → step s ≡ with_control s' c
unfolding step apply
step_from s s' c e w k = rw (← e, w, k)

-- The word that was fetched stands at the pc, inside memory.
fetched_there : (s : State) (w : ℕ) (op : Op) → fetch s ≡ fetched w op
    → (s.control.pc < s.fixed.size)
    × (known (get_or s.memory.values s.control.pc 0) (decode (op_field (get_or s.memory.values s.control.pc 0)))
    ≡ fetched (get_or s.memory.values s.control.pc 0) op)
    × (w ≡ get_or s.memory.values s.control.pc 0)
unfolding fetch value_at
fetched_there s w op e =
    ⊎_elim
    (λ (i : ltb s.control.pc s.fixed.size ≡ true).
    ⊎_elim
    (λ (a : fetch_allowed s ≡ true).
    let q : known (get_or s.memory.values s.control.pc 0) (decode (op_field (get_or s.memory.values s.control.pc 0))) ≡ fetched w op =
    rw (i, a) at e in
    let z = known_word _ (decode (op_field (get_or s.memory.values s.control.pc 0))) q in
    (ltb-true s.control.pc s.fixed.size i, q ∙ ap (λ (x : ℕ). fetched x op) z, z))
    (λ (a : fetch_allowed s ≡ false). absurd (not_fetched (rw (i, a) at e)))
    (either (fetch_allowed s)))
    (λ (i : ltb s.control.pc s.fixed.size ≡ false). absurd (not_fetched (rw i at e)))
    (either (ltb s.control.pc s.fixed.size))
  where
    is_fetched : Fetched → Bool
    is_fetched (failed why) = false
    is_fetched (fetched w op) = true

    not_fetched : {why x : ℕ} {o : Op} → failed why ≡ fetched x o → ⊥
    not_fetched q = clash refl (sym (ap is_fetched q))

    word_of : Fetched → ℕ
    word_of (failed why) = 0
    word_of (fetched x o) = x

    known_word : (x : ℕ) (o : Option Op) {y : ℕ} {p : Op} → known x o ≡ fetched y p → y ≡ x
    known_word x none q = absurd (not_fetched q)
    known_word x (some o) q = sym (ap word_of q)

-- The tick by which a common op has to finish.
abbrev due_by : Fixed → Pace → Live → ℕ
due_by fixed pace live = deadline_of (is_upcall (call_of live.newest)) live.newest.end (tick_of pace fixed.limit)

-- What holds of the deadline that the hot loop is told: it is that tick; or of one step alone perhaps nearer, and then
-- the tick at which a common op at the pc finishes.
abbrev pub Due : Fixed → Pace → Live → List ℕ → List ℕ → List ℕ → ℕ → Type 0
Due fixed pace live values turned words deadline =
    Alone (due_by fixed pace live) (cond (is_once pace) fixed.size 0) live values turned words deadline

module _ {fixed : Fixed} {task : Task} {values₀ labels₀ words₀ marks : List ℕ} {live : Live} {values labels turned words : List ℕ} (h : Went fixed task values₀ labels₀ words₀ marks live values labels turned words) where
  abbrev pace : Pace
  pace = task.pace

  abbrev tick : ℕ
  tick = tick_of task.pace fixed.limit

  abbrev asked : State
  asked = state_from fixed task.start values₀ labels₀ words₀ marks

  abbrev now : State
  now = state_from fixed (control_of live) values labels words marks

  -- The record has ended.
  pub went_ended : {r : Control} → (live.end ≡ 0 → ⊥) → r ≡ control_of live → Driven fixed task values₀ labels₀ words₀ marks r values labels words
  went_ended e q = rw q (sym (go task.pace h.remains))
    where
      over : running now ≡ false
      over = ended now e

      go : (p : Pace) → Remains p asked now → paced p asked ≡ now
      go Once z = ap step z ∙ step_ended now over
      go (Onward k) z = z.same ∙ ended_stays k z.count now over
      go Stride z =
          ap strode z
          ∙ ap (λ (k : Skim). k.state)
          (stride_goes (run_count now) now (skim_stays (run_count now) now (ended_uncommon now over)) (ends_first (run_count now) now (omega arith)))
          ∙ step_ended now over

  module _ (runs : live.end ≡ 0) {deadline : ℕ} (due : Due fixed task.pace live values turned words deadline) where
    -- But for one step it is the tick itself.
    own_due : is_once task.pace ≡ false → deadline ≡ due_by fixed task.pace live
    own_due o = due.outside (rw o (omega arith))

    -- Of one step it looks at every word.
    once_due : is_once task.pace ≡ true → Alone (due_by fixed task.pace live) fixed.size live values turned words deadline
    once_due o = rw o at due

    abbrev left : ℕ
    left = deadline + 1 - live.clock

    -- What the hot loop is told of is this state.
    seen_now : state_with now (context_of fixed.size live deadline) live.pc (deadline + 1 - live.clock) values labels words marks ≡ now
    seen_now =
        let z : deadline + 1 - (deadline + 1 - live.clock) ≡ live.clock = omega (arith, due.later) in
        ap (λ (c : ℕ). with_control now (moved (control_of live) c live.pc)) z

    end_now : end_tick now ≡ live.newest.end
    unfolding end_tick
    end_now = ap end_tick_of (newest_is live) ∙ h.stacked.newest.end

    up_now : in_upcall now.control ≡ is_upcall (call_of live.newest)
    unfolding in_upcall
    up_now = ap is_upcall (newest_is live)

    tick_within : deadline_of (is_upcall (call_of live.newest)) live.newest.end tick
        ≤ deadline_of (is_upcall (call_of live.newest)) live.newest.end fixed.limit
    tick_within = go (is_upcall (call_of live.newest))
      where
        near : (e : ℕ) → nearer e tick ≤ nearer e fixed.limit
        near e =
            choice (λ (x : ℕ). nearer e tick ≤ x) (ltb e fixed.limit) _ _ (λ l. tick_own e tick)
            (λ l. le_trans (tick_limit (Onward e) tick) (tick_limit task.pace fixed.limit))

        go : (b : Bool) → deadline_of b live.newest.end tick ≤ deadline_of b live.newest.end fixed.limit
        go true = near live.newest.end
        go false = tick_limit task.pace fixed.limit

    -- The deadline is within the limit.
    pub deadline_limited : deadline ≤ fixed.limit
    deadline_limited = le_trans due.near (le_trans (by_tick (is_upcall (call_of live.newest))) (tick_limit task.pace fixed.limit))
      where
        by_tick : (b : Bool) → deadline_of b live.newest.end tick ≤ tick
        by_tick true = tick_limit (Onward live.newest.end) tick
        by_tick false = omega arith

    timed : Timed now (context_of fixed.size live deadline)
    timed =
        record {
          running = runs;
          upcall = up_now;
          due = rw end_now (le_trans due.near tick_within);
        }

    -- Where the hot loop starts.
    abbrev start : Place
    start = record { pc = live.pc; left = deadline + 1 - live.clock }

    module _ {context : Context} (u : context ≡ context_of fixed.size live deadline) {place : Place} (v : place ≡ record { pc = live.pc; left = deadline + 1 - live.clock }) {pause : Pause} {values' words' : List ℕ} (q₀ : Sprinted context place values turned words marks pause values' words') where
      -- It was told of this control.
      q : Sprinted (context_of fixed.size live deadline) start values turned words marks pause values' words'
      q =
          subst (λ (x : Place). Sprinted (context_of fixed.size live deadline) x values turned words marks pause values' words') v
          (subst (λ (x : Context). Sprinted x place values turned words marks pause values' words') u q₀)

      -- The control where the hot loop has paused.
      abbrev paused : Live
      paused =
          record { pc = pause.place.pc; pair = live.pair; clock = deadline + 1 - pause.place.left; newest = live.newest; older = live.older; end = live.end; why = live.why }

      abbrev there : State
      there = state_from fixed (control_of paused) values' labels words' marks

      -- How it went there.
      pub ran : Ran now there deadline (deadline + 1 - live.clock) pause.place.left pause.reason
      ran =
          subst (λ (s : State). Ran s there deadline (deadline + 1 - live.clock) pause.place.left pause.reason) seen_now
          (q.ran (whole_lent fixed.size (lent words marks) h.words_lent h.marks_lent) (omega arith) now labels h.mirrors
          (subst (λ (s : State). Timed s (context_of fixed.size live deadline)) (sym seen_now) timed))

      -- A tick is left there, and the clock has not passed the deadline.
      pub some_left : 0 < pause.place.left
      some_left = ran.some (omega (arith, due.later))

      pub few_left : pause.place.left ≤ deadline + 1
      few_left = omega (arith, ran.took)

      -- The clock has grown by a tick or more for each op.
      clock_there : live.clock + ran.count ≤ paused.clock
      clock_there = omega (arith, ran.took, due.later)

      by_deadline : paused.clock ≤ deadline
      by_deadline = omega (arith, some_left)

      due_tick : deadline ≤ tick
      due_tick = le_trans due.near (go (is_upcall (call_of live.newest)))
        where
          go : (b : Bool) → deadline_of b live.newest.end tick ≤ tick
          go true = tick_limit (Onward live.newest.end) tick
          go false = omega arith

      pub clock_limited : paused.clock ≤ fixed.limit
      clock_limited = le_trans by_deadline (le_trans due_tick (tick_limit task.pace fixed.limit))

      pub clock_there_limited : {live' : Live} → live' ≡ paused → live'.clock ≤ fixed.limit
      clock_there_limited mv = rw mv clock_limited

      pub stacked_there : Stacked paused
      stacked_there = record { newest = h.stacked.newest; older = h.stacked.older; under = h.stacked.under }

      pub timely_there : Timely paused
      timely_there u = le_trans by_deadline (le_trans due.near (go (is_upcall (call_of live.newest)) u))
        where
          go : (b : Bool) → b ≡ true → deadline_of b live.newest.end tick ≤ live.newest.end
          go true v = tick_own live.newest.end tick
          go false v = clash v refl

      end_there : end_tick there ≡ live.newest.end
      unfolding end_tick
      end_there = ap end_tick_of (newest_is paused) ∙ h.stacked.newest.end

      up_there : in_upcall there.control ≡ is_upcall (call_of live.newest)
      unfolding in_upcall
      up_there = ap is_upcall (newest_is paused)

      -- Why it stopped.
      pub stopped : Stopped pause.reason deadline there
      stopped = paused_stopped pause.reason pause.place.left deadline there some_left ran.paused

      -- What the run still has to do from there.
      runs_there : (k : ℕ) → task.pace ≡ Onward k → Runs k asked there
      runs_there k e =
          let z : Runs k asked now = rw e at h.remains in
          let near : tick ≤ k = ap_le e in
          record {
            count = z.count - ran.count;
            same =
                z.same
                ∙ by_skim k z.count ran.count now ran.skims (omega (arith, z.enough runs, clock_there, clock_limited))
                (le_trans by_deadline (le_trans due_tick near));
            enough = λ e. omega (arith, z.enough runs, clock_there, clock_limited);
          }
        where
          ap_le : task.pace ≡ Onward k → tick_of task.pace fixed.limit ≤ k
          ap_le e = rw e (tick_own k fixed.limit)

      -- Of a step alone, the first common op was the last.
      single : is_once task.pace ≡ true → ran.count ≤ 1
      single o =
          let a = once_due o in
          alone ran.count now ran.skims
          (λ c. let op = done now c in
          let f = fetched_there now op.word op.op op.fetches in
          let t = (a.timing f.0).is now op.op refl refl h.mirrors f.1 op.common in
          let m = a.most f.0 in
          let z : (table now op.word op.op).ticks ≡ a.ticks = ap (λ (w : ℕ). (table now w op.op).ticks) f.2 ∙ sym t in
          omega (arith, by_deadline, m, op.long, z))

      -- Where it stopped at once, it was for the tick's own deadline.
      own_deadline : ran.count ≡ 0 → pause.reason ≡ Late → deadline ≡ deadline_of (is_upcall (call_of live.newest)) live.newest.end tick
      own_deadline z l =
          ⊎_elim
          (λ (o : is_once task.pace ≡ true).
          let a = once_due o in
          ⊎_elim (λ (x : deadline ≡ deadline_of (is_upcall (call_of live.newest)) live.newest.end tick). x) (λ (x : deadline ≡ live.clock + a.ticks). absurd (over o x)) a.which)
          (λ (o : is_once task.pace ≡ false). own_due o)
          (either (is_once task.pace))
        where
          late : Overdue now deadline
          late = subst (λ (s : State). Overdue s deadline) (sym here) (late_there pause.reason l stopped)
            where
              here : now ≡ there
              here = ap (λ (k : Skim). k.state) (sym (skim_none now) ∙ ap (λ (n : ℕ). skim n now) (sym z) ∙ ran.skims)

              late_there : (r : Reason) → r ≡ Late → Stopped r deadline there → Overdue there deadline
              late_there r e s = subst (λ (x : Reason). Stopped x deadline there) e s

          over : (o : is_once task.pace ≡ true) → deadline ≡ live.clock + (once_due o).ticks → ⊥
          over o x =
              let a = once_due o in
              let f = fetched_there now late.word late.op late.fetches in
              let t = (a.timing f.0).is now late.op refl refl h.mirrors f.1 late.common in
              let y : (table now late.word late.op).ticks ≡ a.ticks = ap (λ (w : ℕ). (table now w late.op).ticks) f.2 ∙ sym t in
              omega (arith, late.past, late.long, x, y)

      -- ---- it went on to where it is to stop

      -- The one step of a step alone.
      step_there : ran.count ≡ 1 → step now ≡ there
      step_there z =
          let e : skim 1 now ≡ record { state = there; left = 0 } = ap (λ (n : ℕ). skim n now) (sym z) ∙ ran.skims in
          ap (λ (k : Skim). k.state) (sym (skim_none (step now)) ∙ (skim_first 0 now e).1)

      -- Nothing was done.
      still_there : ran.count ≡ 0 → now ≡ there
      still_there z = ap (λ (k : Skim). k.state) (sym (skim_none now) ∙ ap (λ (n : ℕ). skim n now) (sym z) ∙ ran.skims)

      -- What a stride skims, and how many steps are then left.
      module _ (st : task.pace ≡ Stride) where
        rest_left : ran.count < run_count now
        rest_left = omega (arith, clock_there, clock_limited)

        skimmed : skim (run_count now) now ≡ record { state = there; left = run_count now - ran.count }
        skimmed =
            let z : run_count now ≡ ran.count + (run_count now - ran.count) = omega (arith, rest_left) in
            ap (λ (n : ℕ). skim n now) z ∙ skim_behind ran.count (run_count now - ran.count) now ran.skims
            ∙ skim_stays (run_count now - ran.count) there (stopped_uncommon pause.reason there runs (λ l. own_limit ∙ rw (up_there, end_there)) stopped)
          where
            own_limit : deadline ≡ deadline_of (is_upcall (call_of live.newest)) live.newest.end fixed.limit
            own_limit =
                own_due (ap is_once st) ∙ ap (λ (p : Pace). deadline_of (is_upcall (call_of live.newest)) live.newest.end (tick_of p fixed.limit)) st

        stride_ended : 0 < ran.count → relabels_at pause.reason ≡ true → strode now ≡ there
        stride_ended more e =
            ap (λ (k : Skim). k.state)
            (stride_ends (run_count now) now skimmed
            (ends_there (run_count now) (run_count now - ran.count) there (omega (arith, rest_left)) (omega (arith, rest_left, more))
            ∙ sym (stopped_relabels pause.reason deadline there stopped)
            ∙ e))

        stride_went : (0 < ran.count → relabels_at pause.reason ≡ false) → strode now ≡ step there
        stride_went e = ap (λ (k : Skim). k.state) (stride_goes (run_count now) now skimmed (go (either (ltb 0 ran.count))))
          where
            go : (ltb 0 ran.count ≡ true) ⊎ (ltb 0 ran.count ≡ false) → ends (run_count now) (record { state = there; left = run_count now - ran.count }) ≡ false
            go (inl m) =
                let more = ltb-true 0 ran.count m in
                ends_there (run_count now) (run_count now - ran.count) there (omega (arith, rest_left)) (omega (arith, rest_left, more))
                ∙ sym (stopped_relabels pause.reason deadline there stopped)
                ∙ e more
            go (inr m) =
                let z : run_count now - ran.count ≡ run_count now = omega (arith, ltb-false 0 ran.count m) in
                ap (λ (n : ℕ). ends (run_count now) (record { state = there; left = n })) z ∙ ends_first (run_count now) there (omega arith)

      -- Whether the steps end there: some were done, and it was one step, or of a stride a word comes that relabels.
      abbrev ends_here : Bool
      ends_here = ltb pause.place.left (deadline + 1 - live.clock) && (is_once task.pace || is_stride task.pace) && (is_once task.pace || relabels_at pause.reason)

      moved_on : ltb pause.place.left (deadline + 1 - live.clock) ≡ true → 0 < ran.count
      moved_on e = positive ran.count (λ z. let y = ran.still z in
          let l = ltb-true pause.place.left (deadline + 1 - live.clock) e in omega (arith, l, y))
        where
          positive : (n : ℕ) → (n ≡ 0 → ⊥) → 0 < n
          positive zero f = absurd (f refl)
          positive (suc n) f = omega arith

      pub went_paused : {live' : Live} → live' ≡ paused → {r : Control} {test : Bool} → test ≡ ends_here → test ≡ true → r ≡ control_of live'
          → Driven fixed task values₀ labels₀ words₀ marks r values' labels words'
      went_paused mv e passed c = rw (c, mv) (sym (go task.pace refl h.remains (sym e ∙ passed)))
        where
          go : (p : Pace) → task.pace ≡ p → Remains p asked now
              → (ltb pause.place.left (deadline + 1 - live.clock) && (is_once p || is_stride p) && (is_once p || relabels_at pause.reason)) ≡ true
              → paced p asked ≡ there
          go Once f z t =
              let more = moved_on ((and_iff (ltb pause.place.left (deadline + 1 - live.clock)) true).0 ((and_iff _ true).0 t).0).0 in
              let few = single (ap is_once f) in
              ap step z ∙ step_there (omega (arith, more, few))
          go (Onward k) f z t =
              clash
              ((and_iff (ltb pause.place.left (deadline + 1 - live.clock)) false).0
              ((and_iff (ltb pause.place.left (deadline + 1 - live.clock) && false) (relabels_at pause.reason)).0 t).0
              ).1
              refl
          go Stride f z t =
              let parts = (and_iff (ltb pause.place.left (deadline + 1 - live.clock) && true) (relabels_at pause.reason)).0 t in
              ap strode z
              ∙ stride_ended f (moved_on ((and_iff (ltb pause.place.left (deadline + 1 - live.clock)) true).0 parts.0).0) parts.1

      -- ---- the step of what it stopped at

      -- Where it stopped at a word, there is a next pc.
      next_there : HasNext pause.reason paused.pc
      next_there = go pause.reason stopped
        where
          go : (r : Reason) → Stopped r deadline there → HasNext r paused.pc
          go Out s = tt
          go Late s = tt
          go Outside s = tt
          go Unreadable s = tt
          go Failed s = tt
          go (Rest w) s = omega (arith, s.within, h.size)

      module _ {live' : Live} (mv : live' ≡ paused) {decision : Decision} (d₀ : Decided pause.reason fixed live' values' labels decision) where
        d : Decided pause.reason fixed paused values' labels decision
        d = subst (λ (l : Live). Decided pause.reason fixed l values' labels decision) mv d₀

        -- What was decided can be applied.
        pub applies_there : Applies decision live' fixed.limit
        applies_there = subst (λ (l : Live). Applies decision l fixed.limit) (sym mv) (d.applies next_there)

        -- When it finishes, as the code asks it.
        barred_as : {tick' : ℕ} {barred : Bool} → tick' ≡ tick → barred ≡ ltb tick' (finish_of decision live' fixed.limit)
            → barred ≡ ltb tick (finish_of decision paused fixed.limit)
        barred_as e f = f ∙ ap₂ (λ (x : ℕ) (l : Live). ltb x (finish_of decision l fixed.limit)) e mv

        -- The model's decision, or both past the tick.
        settled : (ran.count ≡ 0 ⊎ (is_once task.pace ≡ false)) → Settles tick pause.reason there
        settled w =
            settles tick pause.reason there (tick_limit task.pace fixed.limit) runs
            (λ l. ⊎_elim (λ (z : ran.count ≡ 0). own_deadline z l) (λ o. own_due o) w ∙ rw (up_there, end_there)) stopped

        -- What the code decided.
        what : decision_of decision ≡ in_limit there (plan_for pause.reason there)
        what = d.is words' marks

        -- When that finishes.
        finishes : finish there (in_limit there (plan_for pause.reason there)) ≡ finish_of decision paused fixed.limit
        finishes = ap (finish there) (sym what) ∙ go decision
          where
            go : (x : Decision) → finish there (decision_of x) ≡ finish_of x paused fixed.limit
            go Spend = unfold finish in refl
            go (Stall why) = unfold finish in refl
            go (Close cause) = unfold finish in (ap (λ (e : ℕ). e + 1) end_there)
            go (Carry ticks change) = unfold finish in refl

        -- ---- it finishes past the tick

        pub went_barred : {r : Control} {barred : Bool} {tick' : ℕ} → tick' ≡ tick → barred ≡ ltb tick' (finish_of decision live' fixed.limit) → barred ≡ true
            → r ≡ control_of live' → Driven fixed task values₀ labels₀ words₀ marks r values' labels words'
        went_barred te m₀ e c = rw (c, mv) (sym (go task.pace refl))
          where
            past : tick < finish there (in_limit there (plan_for pause.reason there))
            past = rw finishes (ltb-true tick (finish_of decision paused fixed.limit) (sym (barred_as te m₀) ∙ e))

            limited : finish there (in_limit there (plan_for pause.reason there)) ≤ fixed.limit
            limited = finish_in_limit there (plan_for pause.reason there)

            before : tick < fixed.limit
            before = omega (arith, past, limited)

            go : (p : Pace) → task.pace ≡ p → paced p asked ≡ there
            go Once f = absurd (omega (arith, before, ap (λ (p : Pace). tick_of p fixed.limit) f))
            go (Onward k) f =
                let z = runs_there k f in
                z.same ∙ late_by k z.count there (past_own (settled (inr (ap is_once f))))
              where
                own : k ≤ tick
                own =
                    let n : tick ≡ nearer k fixed.limit = ap (λ (p : Pace). tick_of p fixed.limit) f in
                    omega (arith, tick_here k fixed.limit (omega (arith, before, n)), n)

                past_own : Settles tick pause.reason there → k < finish there (decide there)
                past_own (inl same) = omega (arith, own, (rw same at past))
                past_own (inr both) = omega (arith, own, both.0)
            go Stride f = absurd (omega (arith, before, ap (λ (p : Pace). tick_of p fixed.limit) f))

        -- ---- it is done

        module _ {barred : Bool} {tick' : ℕ} (te : tick' ≡ tick) (m₀ : barred ≡ ltb tick' (finish_of decision live' fixed.limit)) (on : barred ≡ false) (w : (ran.count ≡ 0) ⊎ (is_once task.pace ≡ false)) where
          m : barred ≡ ltb tick (finish_of decision paused fixed.limit)
          m = barred_as te m₀

          -- What was decided is the model's decision, and finishes by the tick.
          by : (decision_of decision ≡ decide there) × (finish there (decide there) ≤ tick)
          by =
              let l : finish there (in_limit there (plan_for pause.reason there)) ≤ tick = rw finishes (ltb-false tick (finish_of decision paused fixed.limit) (sym m ∙ on)) in
              ⊎_elim (λ (same : in_limit there (plan_for pause.reason there) ≡ decide there). (what ∙ same, (rw same at l)))
              (λ (both : (tick < finish there (decide there)) × (tick < finish there (in_limit there (plan_for pause.reason there)))).
              absurd (omega (arith, both.1, l)))
              (settled w)

          module _ {values'' labels'' : List ℕ} {after : Live} (b₀ : ◌≡◌ {A = Bank} (record { values = values''; labels = labels'' }) (written_back decision live' (record { values = values'; labels = labels }))) (k₀ : after ≡ transitions.control_after live' fixed.limit decision) where
            -- What was written is what the model writes.
            b : Wrote decision paused values' labels values'' labels''
            b =
                subst (λ (l : Live). Wrote decision l values' labels values'' labels'') mv
                (subst (λ (x : Bank). Wrote decision live' values' labels x.values x.labels) (sym b₀) (applied.wrote decision live' values' labels))

            -- And the control is the model's.
            k : After paused fixed.limit decision after
            k =
                subst (λ (l : Live). After l fixed.limit decision after) mv
                (subst (λ (l : Live). After live' fixed.limit decision l) (sym k₀) (applied.after live' fixed.limit decision (omega (arith, h.limit))))

            -- The measure of the loop falls.
            pub fewer : ticks_left fixed.limit after < ticks_left fixed.limit live
            fewer = ticks_fewer fixed.limit live after runs (omega (arith, h.clock, tick_limit task.pace fixed.limit)) (λ e. let g = k.grown stacked_there timely_there (d.applies next_there) runs e in omega (arith, g, clock_there))

            applies : Applies decision paused fixed.limit
            applies = d.applies next_there

            stepped : step there ≡ state_from fixed (control_of after) values'' labels'' words' marks
            stepped =
                step_from there (state_from fixed (control_of paused) values'' labels'' words' marks) (control_of after) by.0
                (b.is fixed.limit applies fixed words' marks) (k.is stacked_there applies fixed values' labels words' marks refl)

            -- It was all that was asked for.
            pub went_single : {r : Control} {test : Bool} → test ≡ ends_here → test ≡ false → (is_once task.pace || is_stride task.pace) ≡ true
                → r ≡ control_of after → Driven fixed task values₀ labels₀ words₀ marks r values'' labels'' words'
            went_single e passed one c = rw c (sym (go task.pace refl h.remains one (sym e ∙ passed) ∙ stepped))
              where
                go : (p : Pace) → task.pace ≡ p → Remains p asked now → (is_once p || is_stride p) ≡ true
                    → (ltb pause.place.left (deadline + 1 - live.clock) && (is_once p || is_stride p) && (is_once p || relabels_at pause.reason)) ≡ false
                    → paced p asked ≡ step there
                go Once f z o t =
                    ap step (z ∙ still_there (⊎_elim (λ (x : ran.count ≡ 0). x) (λ (x : is_once task.pace ≡ false). clash (ap is_once f) x) w))
                go (Onward n) f z o t = clash o refl
                go Stride f z o t =
                    ap strode z
                    ∙ stride_went f (λ more. ⊎_elim (λ (r : relabels_at pause.reason ≡ true). clash (ends more r) t) (λ (r : relabels_at pause.reason ≡ false). r) (either (relabels_at pause.reason)))
                  where
                    ends : 0 < ran.count → relabels_at pause.reason ≡ true
                        → (ltb pause.place.left (deadline + 1 - live.clock) && true && relabels_at pause.reason) ≡ true
                    ends more r = rw (lt-ltb pause.place.left (deadline + 1 - live.clock) (omega (arith, more, ran.took)), r)

            -- It was not.
            pub went_more : {turned' : List ℕ} → (is_once task.pace || is_stride task.pace) ≡ false → length words' ≡ length words → Mirrors labels'' turned'
                → Went fixed task values₀ labels₀ words₀ marks after values'' labels'' turned' words'
            went_more more same mirror =
                record {
                  size = h.size;
                  limit = h.limit;
                  gates = h.gates;
                  words_lent = rw same h.words_lent;
                  marks_lent = h.marks_lent;
                  mirrors = mirror;
                  stacked = k.stacked stacked_there applies;
                  timely = k.timely stacked_there timely_there applies;
                  clock = clock_by;
                  remains = go task.pace refl more;
                  long = same ∙ h.long;
                }
              where
                clock_after : after.clock ≡ finish there (decide there)
                clock_after = ap (λ (s : State). s.control.clock) (sym stepped) ∙ step_clock there

                clock_by : after.clock ≤ tick
                clock_by = omega (arith, clock_after, by.1)

                go : (p : Pace) → task.pace ≡ p → (is_once p || is_stride p) ≡ false
                    → Remains p asked (state_from fixed (control_of after) values'' labels'' words' marks)
                go Once f o = clash refl o
                go (Onward n) f o =
                    let z = runs_there n f in
                    let near : tick ≤ n = tick_by n f in
                    record {
                      count = z.count - 1;
                      same = z.same ∙ one_by n z.count there (omega (arith, z.enough runs, clock_limited)) (omega (arith, by.1, near)) ∙ ap (steps_by n (z.count - 1)) stepped;
                      enough = λ e. let g = k.grown stacked_there timely_there applies runs e in omega (arith, z.enough runs, g, clock_limited);
                    }
                  where
                    tick_by : (n : ℕ) → task.pace ≡ Onward n → tick_of task.pace fixed.limit ≤ n
                    tick_by n f = rw f (tick_own n fixed.limit)
                go Stride f o = clash refl o

            -- The turned labels are still those of the registers where no label was set.
            pub still_mirrors : sets_label decision ≡ false → Mirrors labels'' turned
            still_mirrors e =
                subst (λ (l : List ℕ). Mirrors l turned)
                (sym (keeps_labels there decision e) ∙ ap (λ (s : State). s.registers.labels) (b.is fixed.limit applies fixed words' marks))
                h.mirrors

-- ---- as the code has it

-- What the code has of what is asked for.
pub record Asked (pace : Pace) (once single : Bool) (limit tick : ℕ) : Type 0 where
  pub once_is : once ≡ is_once pace
  pub single_is : single ≡ (is_once pace || is_stride pace)
  pub tick_is : tick ≡ tick_of pace limit

-- What holds at the loop's test, for the pace that is asked for.
abbrev pub Going : Fixed → List ℕ → List ℕ → List ℕ → List ℕ → Bool → Bool → ℕ → ℕ → Live → List ℕ → List ℕ → List ℕ → List ℕ → Live → Type 0
Going fixed values₀ labels₀ words₀ marks once single limit tick live₀ values labels words turned live =
    (pace : Pace) → Asked pace once single limit tick
    → Went fixed (record { start = control_of live₀; pace = pace }) values₀ labels₀ words₀ marks live values labels turned words

-- At the start.
pub going_start : {fixed : Fixed} {start : Control} {values labels words marks turned : List ℕ} {once single : Bool} {tick : ℕ} {live : Live}
    → InRanges fixed start words marks → Lives start live → Mirrors labels turned → live.clock ≤ tick
    → Going fixed values labels words marks once single fixed.limit tick live values labels words turned live
going_start {fixed} {start} {values} {labels} {words} {marks} {turned} {once} {single} {tick} {live} fit lives mirror near pace asked =
    record {
      size = fit.size;
      limit = fit.limit;
      gates = fit.gates;
      words_lent = fit.words_lent;
      marks_lent = fit.marks_lent;
      mirrors = mirror;
      stacked = lives.stacked;
      timely = λ e. timely_start;
      clock = by_tick;
      remains = remains_start pace (state_from fixed (control_of live) values labels words marks) by_tick;
      long = refl;
    }
  where
    by_tick : live.clock ≤ tick_of pace fixed.limit
    by_tick = omega (arith, near, asked.tick_is)

    newest_start : newest_of start.first start.second ≡ call_of live.newest
    newest_start = ap (λ (c : Control). newest_of c.first c.second) (sym lives.same) ∙ (unfold newest in (newest_is live))

    timely_start : Timely live
    timely_start u =
        let c : start.clock ≡ live.clock = ap (λ (x : Control). x.clock) (sym lives.same) in
        let z : is_timely start.clock (call_of live.newest) ≡ true = subst (λ (x : Call). is_timely start.clock x ≡ true) newest_start fit.timely in
        let e = by_end (call_of live.newest) u z in
        omega (arith, e, c, lives.stacked.newest.end)
      where
        by_end : (x : Call) → is_upcall x ≡ true → is_timely start.clock x ≡ true → start.clock ≤ end_tick_of x
        by_end Empty v w = clash v refl
        by_end (Gate k q) v w = clash v refl
        by_end (Upcall k q e) v w = leb-true start.clock e w

-- Past the tick nothing is done.
pub past_start : {fixed : Fixed} (task : Task) {values labels words marks : List ℕ} {tick : ℕ} {live : Live}
    → InRanges fixed task.start words marks → Lives task.start live → tick ≡ tick_of task.pace fixed.limit → tick < live.clock
    → Driven fixed task values labels words marks task.start values labels words
past_start {fixed} task {values} {labels} {words} {marks} {tick} {live} fit lives e h = go task.pace e
  where
    clock_is : live.clock ≡ task.start.clock
    clock_is = ap (λ (c : Control). c.clock) lives.same

    go : (p : Pace) → tick ≡ tick_of p fixed.limit
        → state_from fixed task.start values labels words marks ≡ paced p (state_from fixed task.start values labels words marks)
    go Once q = absurd (omega (arith, q, h, clock_is, fit.clock))
    go (Onward k) q =
        let before : k < task.start.clock = omega (arith, tick_here k fixed.limit (omega (arith, q, h, clock_is, fit.clock)), q, h, clock_is) in
        rw (lt-ltb k task.start.clock before)
    go Stride q = absurd (omega (arith, q, h, clock_is, fit.clock))

-- What is done from the control of the start is done from the start.
pub driven_from : {fixed : Fixed} (task : Task) {live₀ : Live} (values labels words marks : List ℕ) {r : Control} {values' labels' words' : List ℕ}
    → Lives task.start live₀ → Driven fixed (record { start = control_of live₀; pace = task.pace }) values labels words marks r values' labels' words'
    → Driven fixed task values labels words marks r values' labels' words'
driven_from {fixed} task {live₀} values labels words marks lives d =
    d ∙ ap (λ (c : Control). paced task.pace (state_from fixed c values labels words marks)) lives.same

-- The deadline, as the code makes it.
pub due_of : (fixed : Fixed) {pace : Pace} {once single : Bool} {tick due looked deadline : ℕ} {live : Live} {values turned words : List ℕ}
    → Asked pace once single fixed.limit tick → due ≡ deadline_of (is_upcall (call_of live.newest)) live.newest.end tick
    → looked ≡ cond once fixed.size 0 → Alone due looked live values turned words deadline → Due fixed pace live values turned words deadline
due_of fixed {pace} {due = due} {deadline = deadline} {live = live} {values = values} {turned = turned} {words = words} asked d l a =
    subst (λ (x : ℕ). Alone x (cond (is_once pace) fixed.size 0) live values turned words deadline)
    (d ∙ ap (deadline_of (is_upcall (call_of live.newest)) live.newest.end) asked.tick_is)
    (subst (λ (x : ℕ). Alone due x live values turned words deadline) (l ∙ ap (λ (b : Bool). cond b fixed.size 0) asked.once_is) a)

-- What the deadline is made from.
pub alone_asks : {fixed : Fixed} {pace : Pace} {start : Control} {values₀ labels₀ words₀ marks values labels turned words : List ℕ} {live : Live} {once single : Bool} {tick due looked : ℕ}
    → Went fixed (record { start = start; pace = pace }) values₀ labels₀ words₀ marks live values labels turned words → live.end ≡ 0
    → Asked pace once single fixed.limit tick → (due ≡ deadline_of (is_upcall (call_of live.newest)) live.newest.end tick) × (due ≤ tick)
    → looked ≡ cond once fixed.size 0
    → (looked ≤ length words) × (live.clock ≤ due) × (due ≤ most_ticks)
alone_asks {fixed} {pace} {words = words} {live = live} {once = once} {tick = tick} {due = due} h runs asked d l = (
  rw l (choice (λ (x : ℕ). x ≤ length words) once _ _ (λ b. h.words_lent) (λ b. omega arith)),
  rw d.0 (by (is_upcall (call_of live.newest)) (h.timely runs)),
  omega (arith, d.1, asked.tick_is, tick_limit pace fixed.limit, h.limit),
)
  where
    clock_by : live.clock ≤ tick
    clock_by = omega (arith, h.clock, asked.tick_is)

    by : (b : Bool) → (b ≡ true → live.clock ≤ live.newest.end) → live.clock ≤ deadline_of b live.newest.end tick
    by true f = choice (λ (x : ℕ). live.clock ≤ x) (ltb live.newest.end tick) _ _ (λ e. f refl) (λ e. clock_by)
    by false f = clock_by

-- Where the steps end, as the code asks it.
pub ends_as : {pace : Pace} {once single : Bool} {limit tick : ℕ} (left' : ℕ) {place start : Place} {y : Bool} (reason : Reason)
    → Asked pace once single limit tick → place ≡ start → y ≡ relabels_at reason
    → (ltb left' place.left && single && (once || y))
    ≡ (ltb left' start.left && (is_once pace || is_stride pace) && (is_once pace || relabels_at reason))
ends_as left' reason asked v e = rw (v, asked.single_is, asked.once_is, e)

-- Where a step is still to be done, it is the first, or more than one was asked for.
pub first_or_more : {pace : Pace} {once single : Bool} {limit tick : ℕ} (left' count : ℕ) {place start : Place} (y : Bool)
    → Asked pace once single limit tick → place ≡ start → left' + count ≤ start.left
    → (ltb left' place.left && single && (once || y)) ≡ false → (count ≡ 0) ⊎ (is_once pace ≡ false)
first_or_more {pace} {once} {single} left' count {place} {start} y asked v took e =
    ⊎_elim
    (λ (o : is_once pace ≡ true).
    inl
    (none
    (λ (l : left' < place.left).
    clash (full (lt-ltb left' place.left l) (asked.single_is ∙ rw o) (asked.once_is ∙ o)) e)))
    inr
    (either (is_once pace))
  where
    full : {a b c : Bool} → a ≡ true → b ≡ true → c ≡ true → (a && b && (c || y)) ≡ true
    full p q r = rw (p, q, r)

    none : (left' < place.left → ⊥) → count ≡ 0
    none f =
        ⊎_elim (λ (x : ltb left' place.left ≡ true). absurd (f (ltb-true left' place.left x)))
        (λ (x : ltb left' place.left ≡ false). omega (arith, took, ltb-false left' place.left x, ap (λ (p : Place). p.left) v))
        (either (ltb left' place.left))
