-- `labels::Label::is_highest` meets its contract: the constant is the definition's number.
-- Assumes nothing.
use Rattle.labels.proofs.Constants.{highest_number}
use Rattle.labels.proofs.Label.is_highest.Goals as goal

pub returns : goal.returns
returns c = rw highest_number c.eq.ensures
