-- `hexreader::byte_of` meets its contract: two digits write a byte, and nothing else does.
-- Assumes nothing.
use mathlib.Core.Path.{◌∙◌}
use Rattle.hexreader.proofs.Laws.{byte_told, no_high, no_low}
use Rattle.hexreader.proofs.byte_of.Goals as goal

pub returns-in_err-first : goal.returns-in_err-first
returns-in_err-first c = c.from_residual.ensures ∙ no_high _ _ c.in_err-first.ensures

pub returns-in_err-second : goal.returns-in_err-second
returns-in_err-second c =
    c.from_residual-in_err-second.ensures ∙ no_low _ _ _ c.in_ok-first.ensures c.in_err-second.ensures

pub returns : goal.returns
returns c = byte_told _ _ _ _ c.in_ok-first.ensures c.in_ok-second.ensures
