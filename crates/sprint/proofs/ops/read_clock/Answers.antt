-- `sprint::ops::read_clock` meets its contract.
-- Assumes nothing.
use Rattle.std.proofs.Common.{◌+◌, ◌-◌, ◌%◌, ◌^◌, arith}
use Rattle.sprint.proofs.ops.read_clock.Goals as goal

pub returns : goal.returns
returns c =
    let check = c in
    record {
      clock = ((c.args.spot.context.deadline + 1) % 2 ^ 32 + (2 ^ 32 - c.args.spot.left)) % 2 ^ 32;
      short = omega arith;
      counted = omega arith;
      assigned =
          rw (
            ← check.a_of-a.ensures.0,
            ← check.restrictions.ensures,
            ← check.restrictions-2.ensures,
            ← check.may_go-ok.ensures,
          ) c.assign.ensures;
    }
