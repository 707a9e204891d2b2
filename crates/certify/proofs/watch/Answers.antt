-- `certify::watch` meets its contract.
-- Assumes nothing.
use mathlib.Core.Path.{◌∙◌}
use native.Mathlib.Omega.{arith}
use Rattle.model.specs.Record.{state_from}
use Rattle.certify.proofs.Watching.{loaded_ready, watching_start, tested, watching_clock, watching_less, watching_turn, watching_end}
use Rattle.certify.proofs.Attempt.{attempted_there}
use Rattle.certify.proofs.watch.Goals as goal

pub leads_within-opened-requires : goal.leads_within-opened-requires
leads_within-opened-requires c = (loaded_ready c.requires).fit.fixed.gates

pub steps_left-left-requires : goal.steps_left-left-requires
steps_left-left-requires c =
    let ready = loaded_ready c.requires in
    (ready.fit.clock, ready.fit.fixed.limit_high)

pub loop-left-init : goal.loop-left-init
loop-left-init c =
    watching_start (loaded_ready c.requires) c.leads_within-opened.ensures c.break_of-found.ensures c.steps_left-left.ensures

pub relabelling-word-requires : goal.relabelling-word-requires
relabelling-word-requires c =
    (c.loop-left.invariant.ready.words, c.loop-left.invariant.ready.labels)

pub has_time-requires : goal.has_time-requires
has_time-requires c =
    let fit = c.loop-left.invariant.ready.fit in omega (arith, fit.clock, fit.fixed.limit_high)

pub steps_left-left-requires-in-loop-left : goal.steps_left-left-requires-in-loop-left
steps_left-left-requires-in-loop-left c =
    (watching_clock c.loop-left.invariant (tested c.loop-left.found _ _ c.is_none.ensures c.loop-left-test.true) c.advance-control.ensures, c.loop-left.invariant.ready.fit.fixed.limit_high)

pub loop-left-smaller : goal.loop-left-smaller
loop-left-smaller c =
    watching_less c.loop-left.invariant (tested c.loop-left.found _ _ c.is_none.ensures c.loop-left-test.true) c.advance-control.ensures c.steps_left-left-in-loop-left.ensures

pub loop-left-preserved : goal.loop-left-preserved
loop-left-preserved c =
    watching_turn c.loop-left.invariant (tested c.loop-left.found _ _ c.is_none.ensures c.loop-left-test.true) c.advance-control.ensures c.leads_within-opened.ensures
    (attempted_there c.args.label
    (state_from c.args.machine.fixed c.loop-left.control c.loop-left.registers.values c.loop-left.registers.labels c.loop-left.words c.args.marks.now)
    c.relabelling-word.ensures c.has_time.ensures c.releases.ensures)
    c.first_break-found.ensures c.steps_left-left-in-loop-left.ensures c.advance-control.auto.words

pub shape_of-words : goal.shape_of-words
shape_of-words c =
    c.advance.auto.words
    ∙ c.loop-left.invariant.long

pub returns : goal.returns
returns c =
    watching_end c.loop-left.invariant
    (tested c.loop-left.found _ _ c.is_none.ensures c.loop-left-test.false) c.advance.ensures
