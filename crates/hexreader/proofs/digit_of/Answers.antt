-- `hexreader::digit_of` meets its contract: std's digits of base 16 are the model's.
-- Assumes nothing.
use mathlib.Core.Path.{◌∙◌}
use Rattle.hexreader.proofs.Laws.{digit_some, digit_none}
use Rattle.hexreader.proofs.digit_of.Goals as goal

pub returns-in_err-digit : goal.returns-in_err-digit
returns-in_err-digit c =
    c.from_residual.ensures ∙ digit_none _ (rw c.from.ensures at c.in_err-digit.ensures.value)

pub returns : goal.returns
returns c = digit_some c.args.byte _ (rw c.from.ensures at c.in_ok-digit.ensures.value)
