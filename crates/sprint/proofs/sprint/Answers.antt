-- `sprint::sprint` meets its contract.
-- Assumes nothing.
use Rattle.std.proofs.Common.{arith}
use Rattle.parts.specs.declared.stages.Reason.TheVariants.{Outside, Unreadable}
use Rattle.sprint.specs.Sprint.{state_with}
use Rattle.sprint.proofs.Loop.{Does, runs_none, runs_more, ran_out, stopped, stopped_turn, outside, not_readable, readable, too_short, lent_whole_lem}
use Rattle.sprint.proofs.sprint.Goals as goal
use Rattle.sprint.proofs.sprint.Goals.{After-common}

-- What the turn of the fetched word does.
turned : (c : After-common)
    → Does c.args.context c.args.turned.now c.args.marks.now c.loop-place.place.pc c.loop-place.place.left c.loop-place.values c.loop-place.words
    c.common.result c.common.new.values c.common.new.words
turned c s labels m b t =
    c.common.ensures.0 s labels m b t
    (readable
    (state_with s c.args.context c.loop-place.place.pc c.loop-place.place.left c.loop-place.values labels c.loop-place.words c.args.marks.now)
    c.index-at.ensures c.if-context-place.false (omega arith) c.lacking-lacked.ensures
    c.restrictions.ensures c.may_go.ensures c.if-not-may_go.false)

pub returns-then-words-size : goal.returns-then-words-size
returns-then-words-size c = too_short c.index-size.ensures c.if-words-size.true c.pause.ensures

pub loop-place-init : goal.loop-place-init
loop-place-init c = runs_none (lent_whole_lem _ _ c.index-size.ensures c.if-words-size.false)

pub returns-then-context-place : goal.returns-then-context-place
returns-then-context-place c =
    stopped c.loop-place.invariant Outside c.pause-then-context-place.ensures (λ s labels. outside _ c.if-context-place.true)

pub returns-then-not-may_go : goal.returns-then-not-may_go
returns-then-not-may_go c =
    stopped c.loop-place.invariant Unreadable c.pause-then-not-may_go.ensures
    (λ s labels.
    not_readable _ c.index-at.ensures c.if-context-place.false (omega arith)
    c.lacking-lacked.ensures c.restrictions.ensures c.may_go.ensures c.if-not-may_go.true)

pub loop-place-preserved : goal.loop-place-preserved
loop-place-preserved c =
    runs_more c.loop-place.invariant (turned (goal.at.loop-place-preserved c).After-common) c.in-Going.is c.in-Going.ensures.1 c.common.auto.words

pub returns-in-Stopping : goal.returns-in-Stopping
returns-in-Stopping c =
    stopped_turn c.loop-place.invariant (turned (goal.at.returns-in-Stopping c).After-common) c.pause-in-Stopping.ensures c.in-Stopping.is

pub returns : goal.returns
returns c = ran_out c.loop-place.invariant c.pause-2.ensures c.loop-place-test.false
