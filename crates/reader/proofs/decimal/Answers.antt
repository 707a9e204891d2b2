-- `reader::decimal` meets its contract: the digits passed write `value`, and those left go on from there.
-- Assumes nothing.
use Rattle.std.proofs.Common.{◌∙◌, sym, arith}
use Rattle.texts.proofs.Text.{digit_range}
use Rattle.reader.proofs.Digits.{decimal_more, decimal_end, decimal_small}
use Rattle.reader.proofs.decimal.Goals as goal

-- The digit that the loop has come to is one of the bytes 48 to 57.
pub overflow_sub-digit : goal.overflow_sub-digit
overflow_sub-digit c = (digit_range _ (c.requires.all c.loop-digit.digit-index 0 (omega arith))).0

pub loop-digit-preserved : goal.loop-digit-preserved
loop-digit-preserved c =
    let i = c.loop-digit.digit-index in
    let d = digit_range _ (c.requires.all i 0 (omega arith)) in
    record {
      valued = c.loop-digit.invariant.valued ∙ rw c.from.ensures (decimal_more _ _ i c.loop-digit-test.true);
      small = decimal_small _ _ _ c.loop-digit.invariant.small (omega (arith, d.1, c.from.ensures));
    }

pub returns : goal.returns
returns c =
    sym (c.loop-digit.invariant.valued
    ∙ decimal_end _ _ _ c.loop-digit-test.false)
