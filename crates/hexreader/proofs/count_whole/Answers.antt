-- `hexreader::count_whole` meets its contract, by the total of the record's bytes.
-- Assumes nothing.
use mathlib.Core.Path.{◌∙◌}
use Rattle.hexreader.proofs.Laws.{whole_none, whole_some, not_whole}
use Rattle.hexreader.proofs.count_whole.Goals as goal

pub returns-in_err-length : goal.returns-in_err-length
returns-in_err-length c = c.from_residual.ensures ∙ whole_none c.args.text.now c.in_err-length.ensures

pub returns-then-total-length : goal.returns-then-total-length
returns-then-total-length c =
    whole_some c.args.text.now _ _ c.sum_bytes-total.ensures c.in_ok-length.ensures c.if-total-length.true

pub returns-else-total-length : goal.returns-else-total-length
returns-else-total-length c =
    not_whole c.args.text.now _ _ c.sum_bytes-total.ensures c.in_ok-length.ensures c.if-total-length.false
