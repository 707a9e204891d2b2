-- `engine::drive::alone` meets its contract.
-- Assumes nothing.
use Rattle.std.proofs.Common.{arith, rules, get_or}
use Rattle.turns.specs.Ticks.{Timing}
use Rattle.turns.proofs.Ticks.{timing_is}
use Rattle.engine.proofs.Driving.{alone_nearer, alone_outside}
use Rattle.engine.proofs.drive.alone.Goals as goal
use Rattle.engine.proofs.drive.alone.Goals.{After-ticks_at}

-- The ticks are those of the op at the pc.
timing : (c : After-ticks_at)
    → Timing (get_or c.args.words.now c.index.result 0) c.args.live.pair.timing c.args.values.now c.args.turned.now c.ticks_at.result
timing c = timing_is _ _ _ _ (search rules) c.ticks_at.ensures

pub overflow_add-finish : goal.overflow_add-finish
overflow_add-finish c = omega (arith, (timing (goal.at.overflow_add-finish c).After-ticks_at).few)

pub returns-then-live-size : goal.returns-then-live-size
returns-then-live-size c =
    alone_nearer c.if-live-size.true c.index.ensures (timing (goal.at.returns-then-live-size c).After-ticks_at) c.requires.1 c.min.ensures

pub returns : goal.returns
returns c = alone_outside c.requires.1 c.if-live-size.false
