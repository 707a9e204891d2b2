-- `hexreader::byte_at` meets its contract: behind the end no byte is written.
-- Assumes nothing.
use mathlib.Core.Path.{◌∙◌}
use native.Mathlib.Omega.{arith}
use Rattle.hexreader.proofs.Laws.{none_outside}
use Rattle.hexreader.proofs.byte_at.Goals as goal

pub returns-in_err-high : goal.returns-in_err-high
returns-in_err-high c =
    c.from_residual.ensures
    ∙ none_outside c.args.text.now c.args.at (omega (arith, c.in_err-high.ensures.lookup.3))

pub returns-in_err-low : goal.returns-in_err-low
returns-in_err-low c =
    c.from_residual-in_err-low.ensures
    ∙ none_outside c.args.text.now c.args.at c.in_err-low.ensures.lookup.3
