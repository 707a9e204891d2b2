-- `writer::digit_count` meets its contract: by the power of ten that the number reaches, if it isn't one digit.
-- Assumes nothing.
use Rattle.std.proofs.Common.{length, sym, ap}
use Rattle.texts.proofs.Decimal.{decimal_digit, by_logarithm}
use Rattle.writer.proofs.digit_count.Goals as goal

pub returns-then-n-lt10 : goal.returns-then-n-lt10
returns-then-n-lt10 c = sym (ap length (decimal_digit c.args.n c.if-n-lt10.true))

pub returns : goal.returns
returns c =
    let l = c.checked_ilog10.ensures in
    rw c.unwrap_or.ensures (by_logarithm c.args.n _ l.none l.power_le l.next_power_gt l.bound)
