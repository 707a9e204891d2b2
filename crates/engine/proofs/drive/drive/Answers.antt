-- `engine::drive::drive` meets its contract.
-- Assumes nothing.
use Prim.Native.Nat.{ℕ, ◌+◌, ◌-◌, ◌≤◌, ◌<◌}
use mathlib.Core.Path.{◌≡◌, sym, ap₂, ◌∙◌}
use mathlib.Core.Logic.{◌⊎◌}
use mathlib.Core.Bool.{true, false, ◌||◌}
use mathlib.Core.List.{List}
use native.Mathlib.Omega.{arith}
use lib.ListN.{length}
use Rattle.model.specs.declared.Control.{Control}
use Rattle.model.specs.Numbers.{most_ticks}
use Rattle.parts.specs.Live.{control_of, Lives}
use Rattle.parts.proofs.Frames as frames
use Rattle.turns.specs.Turned.{Mirrors}
use Rattle.sprint.specs.declared.Place.{Place}
use Rattle.pacing.specs.declared.Pace.{Pace}
use Rattle.pacing.specs.Pace.{is_once, is_stride}
use Rattle.pacing.specs.SetsLabel.{sets_label}
use Rattle.engine.specs.declared.Task.{Task}
use Rattle.engine.specs.Inner.Drive.{context_of}
use Rattle.engine.proofs.Driving.{Driven, Went, Due, Asked, going_start, past_start, driven_from, due_of, alone_asks, deadline_limited, ends_as, first_or_more, ticks_left, went_ended, ran, few_left, clock_there_limited, went_paused, applies_there, went_barred, fewer, went_single, went_more, still_mirrors}
use Rattle.engine.proofs.drive.drive.Goals as goal
use Rattle.engine.proofs.drive.drive.Goals.{After-alone-deadline, After-control_after-live, After-decide-decision, After-relabels, After-sprint-pause, At-loop-live, Start}

-- ---- the places of a turn: the start, the loop's test, the deadline made, the hot loop paused, what is decided there,
-- and a step of it

abbrev started : At-loop-live → Start
started c = (goal.at.At-loop-live c).Start

abbrev tested : After-alone-deadline → At-loop-live
tested c = (goal.at.After-alone-deadline c).At-loop-live

abbrev told : After-sprint-pause → After-alone-deadline
told c = (goal.at.After-sprint-pause c).After-alone-deadline

abbrev paused : After-relabels → After-sprint-pause
paused c = (goal.at.After-relabels c).After-sprint-pause

abbrev stopped : After-decide-decision → After-relabels
stopped c = (goal.at.After-decide-decision c).After-relabels

abbrev stepped : After-control_after-live → After-decide-decision
stepped c = (goal.at.After-control_after-live c).After-decide-decision

-- ---- at the loop's test

-- What is asked for, as the code has it, at a pace for which its answers are these.
abbrev AskedAt : At-loop-live → Pace → Type 0
AskedAt c p =
    Asked p c.is_once-once.result
    (c.is_once-once.result || c.is_stride.result)
    (started c).args.fixed.limit c.tick-tick.result

-- The task from the control that the loop began with, at a pace.
abbrev task_at : At-loop-live → Pace → Task
task_at c p = record { start = control_of c.from-live.result; pace = p }

-- So is the task's own pace.
asked : (c : At-loop-live) → AskedAt c (started c).args.task.pace
asked c =
    record {
      once_is = c.is_once-once.ensures;
      single_is = ap₂ ◌||◌ c.is_once-once.ensures c.is_stride.ensures;
      tick_is = c.tick-tick.ensures.0;
    }

-- The control that the loop began with is the start's.
lives : (c : At-loop-live) → Lives (started c).args.task.start c.from-live.result
lives c = frames.lives _ c.from-live.ensures (started c).requires.stacked

-- What holds at the loop's test.
went : (c : At-loop-live) (p : Pace) → AskedAt c p
    → Went (started c).args.fixed (task_at c p) (started c).args.registers.now.values (started c).args.registers.now.labels (started c).args.words.now
    (started c).args.marks.now c.loop-live.live c.loop-live.registers.values c.loop-live.registers.labels c.loop-live.turned c.loop-live.words
went c p q = c.loop-live.invariant p q

-- What is done from there is what was asked for.
driven : (c : At-loop-live) {r : Control} {values labels words : List ℕ}
    → Driven (started c).args.fixed (task_at c (started c).args.task.pace) (started c).args.registers.now.values (started c).args.registers.now.labels
    (started c).args.words.now (started c).args.marks.now r values labels words
    → Driven (started c).args.fixed (started c).args.task (started c).args.registers.now.values (started c).args.registers.now.labels
    (started c).args.words.now (started c).args.marks.now r values labels words
driven c d =
    driven_from (started c).args.task (started c).args.registers.now.values (started c).args.registers.now.labels (started c).args.words.now
    (started c).args.marks.now (lives c) d

-- ---- with the deadline made

-- The deadline that the hot loop is told.
due : (c : After-alone-deadline) (p : Pace) → AskedAt (tested c) p
    → Due (started (tested c)).args.fixed p (tested c).loop-live.live (tested c).loop-live.registers.values (tested c).loop-live.turned (tested c).loop-live.words
    c.alone-deadline.result
due c p q =
    due_of (started (tested c)).args.fixed q c.deadline_of-due.ensures.0 (tested c).looked_at-looked.ensures
    c.alone-deadline.ensures

-- The record runs.
runs : (c : After-alone-deadline) → (tested c).loop-live.live.end ≡ 0
runs c = c.loop-live-test.true

-- No deadline is past the most ticks.
within : (c : After-alone-deadline) → c.alone-deadline.result ≤ most_ticks
within c =
    let l = tested c in
    omega (arith, deadline_limited (went l _ (asked l)) (runs c) (due c _ (asked l)), (started l).requires.limit)

-- ---- where the hot loop has paused

-- What it was told.
context : (c : After-sprint-pause)
    → c.context_of-context.result
    ≡ context_of (started (tested (told c))).args.fixed.size (tested (told c)).loop-live.live (told c).alone-deadline.result
context c = c.context_of-context.ensures

-- From where it went.
place : (c : After-sprint-pause)
    → let l = tested (told c) in
    ◌≡◌ {A = Place} c.place_of-place.result
    (record { pc = l.loop-live.live.pc; left = (told c).alone-deadline.result + 1 - l.loop-live.live.clock })
place c = c.place_of-place.ensures

-- The words are as many as before.
long : (c : After-sprint-pause)
    → length c.sprint-pause.new.words ≡ length (started (tested (told c))).args.words.now
long c = let l = tested (told c) in c.sprint-pause.auto.words ∙ (went l _ (asked l)).long

-- ---- after a step of what was decided there

module _ (c : After-control_after-live) where
  -- Where the hot loop had paused.
  abbrev there : After-sprint-pause
  there = paused (stopped (stepped c))

  -- The deadline made.
  abbrev made : After-alone-deadline
  made = told there

  -- The loop's test.
  abbrev test : At-loop-live
  test = tested made

  module _ (p : Pace) (q : AskedAt test p) where
    -- It is the first step, or more than one was asked for.
    first : ((ran (went test p q) (runs made) (due made p q) (context there) (place there) there.sprint-pause.ensures).count ≡ 0)
        ⊎ (is_once p ≡ false)
    first =
        first_or_more _ _ c.relabels.result q (place there)
        (ran (went test p q) (runs made) (due made p q) (context there) (place there) there.sprint-pause.ensures).took
        c.if-there-place.false

    -- The measure falls.
    fewer_now : ticks_left (started test).args.fixed.limit c.control_after-live.result < ticks_left (started test).args.fixed.limit test.loop-live.live
    fewer_now =
        fewer (went test p q) (runs made) (due made p q) (context there) (place there) there.sprint-pause.ensures c.moved-live.ensures
        {decision = (stepped c).decide-decision.result} (record { is = (stepped c).decide-decision.ensures.0; applies = (stepped c).decide-decision.ensures.1 })
        q.tick_is c.is_barred.ensures c.if-is_barred.false first c.write_back.ensures c.control_after-live.ensures

    -- What holds at the loop's test again.
    went_now : {turned : List ℕ} → (is_once p || is_stride p) ≡ false → Mirrors c.write_back.new.registers.labels turned
        → Went (started test).args.fixed (task_at test p) (started test).args.registers.now.values (started test).args.registers.now.labels
        (started test).args.words.now (started test).args.marks.now c.control_after-live.result c.write_back.new.registers.values
        c.write_back.new.registers.labels turned there.sprint-pause.new.words
    went_now more mirrors =
        went_more (went test p q) (runs made) (due made p q) (context there) (place there) there.sprint-pause.ensures c.moved-live.ensures
        {decision = (stepped c).decide-decision.result} (record { is = (stepped c).decide-decision.ensures.0; applies = (stepped c).decide-decision.ensures.1 })
        q.tick_is c.is_barred.ensures c.if-is_barred.false first c.write_back.ensures c.control_after-live.ensures
        more there.sprint-pause.auto.words mirrors

    -- Where no label was set, the turned ones are still those of the registers.
    mirrors_now : sets_label (stepped c).decide-decision.result ≡ false → Mirrors c.write_back.new.registers.labels test.loop-live.turned
    mirrors_now e =
        still_mirrors (went test p q) (runs made) (due made p q) (context there) (place there) there.sprint-pause.ensures c.moved-live.ensures
        {decision = (stepped c).decide-decision.result} (record { is = (stepped c).decide-decision.ensures.0; applies = (stepped c).decide-decision.ensures.1 })
        q.tick_is c.is_barred.ensures c.if-is_barred.false first c.write_back.ensures c.control_after-live.ensures e

    -- It was all that was asked for.
    single_now : {r : Control} → (is_once p || is_stride p) ≡ true → r ≡ control_of c.control_after-live.result
        → Driven (started test).args.fixed (task_at test p) (started test).args.registers.now.values (started test).args.registers.now.labels
        (started test).args.words.now (started test).args.marks.now r c.write_back.new.registers.values
        c.write_back.new.registers.labels there.sprint-pause.new.words
    single_now one e =
        went_single (went test p q) (runs made) (due made p q) (context there) (place there) there.sprint-pause.ensures c.moved-live.ensures
        {decision = (stepped c).decide-decision.result} (record { is = (stepped c).decide-decision.ensures.0; applies = (stepped c).decide-decision.ensures.1 })
        q.tick_is c.is_barred.ensures c.if-is_barred.false first c.write_back.ensures c.control_after-live.ensures
        (ends_as there.sprint-pause.result.place.left there.sprint-pause.result.reason q (place there) c.relabels.ensures)
        c.if-there-place.false one e

-- ---- the needs

pub returns-then-tick-live : goal.returns-then-tick-live
returns-then-tick-live c =
    past_start c.args.task c.requires (frames.lives _ c.from-live.ensures c.requires.stacked)
    c.tick-tick.ensures.0 c.if-tick-live.true

pub loop-live-init : goal.loop-live-init
loop-live-init c =
    going_start c.requires (frames.lives _ c.from-live.ensures c.requires.stacked) c.turn-turned.ensures c.if-tick-live.false

pub alone-deadline-requires : goal.alone-deadline-requires
alone-deadline-requires c =
    let l = (goal.at.alone-deadline-requires c).At-loop-live in
    alone_asks (went l _ (asked l)) c.loop-live-test.true (asked l) c.deadline_of-due.ensures l.looked_at-looked.ensures

pub place_of-place-requires : goal.place_of-place-requires
place_of-place-requires c = let a = (goal.at.place_of-place-requires c).After-alone-deadline in ((due a _ (asked (tested a))).later, within a)

pub overflow_add-deadline : goal.overflow_add-deadline
overflow_add-deadline c = omega (arith, within (goal.at.overflow_add-deadline c).After-alone-deadline)

pub overflow_sub-deadline : goal.overflow_sub-deadline
overflow_sub-deadline c =
    let s = (goal.at.overflow_sub-deadline c).After-sprint-pause in
    let a = told s in
    let l = tested a in
    few_left (went l _ (asked l)) (runs a) (due a _ (asked l)) (context s) (place s) s.sprint-pause.ensures

pub shape_of-words-then-there-place : goal.shape_of-words-then-there-place
shape_of-words-then-there-place c = long (goal.at.shape_of-words-then-there-place c).After-sprint-pause

pub returns-then-there-place : goal.returns-then-there-place
returns-then-there-place c =
    let s = (goal.at.returns-then-there-place c).After-sprint-pause in
    let a = told s in
    let l = tested a in
    driven l
    (went_paused (went l _ (asked l)) (runs a) (due a _ (asked l)) (context s) (place s) s.sprint-pause.ensures
    c.moved-live.ensures (ends_as s.sprint-pause.result.place.left s.sprint-pause.result.reason (asked l) (place s) c.relabels.ensures)
    c.if-there-place.true c.from.ensures)

pub is_barred-requires : goal.is_barred-requires
is_barred-requires c =
    let s = (goal.at.is_barred-requires c).After-sprint-pause in
    let a = told s in
    let l = tested a in (
      applies_there (went l _ (asked l)) (runs a) (due a _ (asked l)) (context s) (place s) s.sprint-pause.ensures
          c.moved-live.ensures {decision = c.decide-decision.result} (record { is = c.decide-decision.ensures.0; applies = c.decide-decision.ensures.1 }),
      clock_there_limited (went l _ (asked l)) (runs a) (due a _ (asked l)) (context s) (place s) s.sprint-pause.ensures c.moved-live.ensures,
    )

pub shape_of-words-then-is_barred : goal.shape_of-words-then-is_barred
shape_of-words-then-is_barred c = long (goal.at.shape_of-words-then-is_barred c).After-sprint-pause

pub returns-then-is_barred : goal.returns-then-is_barred
returns-then-is_barred c =
    let s = (goal.at.returns-then-is_barred c).After-sprint-pause in
    let a = told s in
    let l = tested a in
    driven l
    (went_barred (went l _ (asked l)) (runs a) (due a _ (asked l)) (context s) (place s) s.sprint-pause.ensures
    c.moved-live.ensures {decision = c.decide-decision.result} (record { is = c.decide-decision.ensures.0; applies = c.decide-decision.ensures.1 }) (asked l).tick_is
    c.is_barred.ensures c.if-is_barred.true c.from-then-is_barred.ensures)

pub shape_of-words-then-single : goal.shape_of-words-then-single
shape_of-words-then-single c = long (goal.at.shape_of-words-then-single c).After-sprint-pause

pub returns-then-single : goal.returns-then-single
returns-then-single c =
    let k = (goal.at.returns-then-single c).After-control_after-live in
    let l = test k in
    driven l (single_now k _ (asked l) (sym (asked l).single_is ∙ c.if-single.true) c.from-then-single.ensures)

pub loop-live-smaller-then-sets_label : goal.loop-live-smaller-then-sets_label
loop-live-smaller-then-sets_label c = let k = (goal.at.loop-live-smaller-then-sets_label c).After-control_after-live in fewer_now k _ (asked (test k))

pub loop-live-preserved-then-sets_label : goal.loop-live-preserved-then-sets_label
loop-live-preserved-then-sets_label c =
    let k = (goal.at.loop-live-preserved-then-sets_label c).After-control_after-live in
    λ p q. went_now k p q (sym q.single_is ∙ c.if-single.false) c.turn-turned-then-sets_label.ensures

pub loop-live-smaller : goal.loop-live-smaller
loop-live-smaller c = let k = (goal.at.loop-live-smaller c).After-control_after-live in fewer_now k _ (asked (test k))

pub loop-live-preserved : goal.loop-live-preserved
loop-live-preserved c =
    let k = (goal.at.loop-live-preserved c).After-control_after-live in
    λ p q. went_now k p q (sym q.single_is ∙ c.if-single.false) (mirrors_now k p q (sym c.sets_label.ensures ∙ c.if-sets_label.false))

pub shape_of-words : goal.shape_of-words
shape_of-words c = let l = (goal.at.shape_of-words c).At-loop-live in (went l _ (asked l)).long

pub returns : goal.returns
returns c =
    let l = (goal.at.returns c).At-loop-live in
    driven l (went_ended (went l _ (asked l)) c.loop-live-test.false c.from-2.ensures)
