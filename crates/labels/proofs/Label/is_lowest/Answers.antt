-- `labels::Label::is_lowest` meets its contract: the constant is the definition's number.
-- Assumes nothing.
use Rattle.labels.proofs.Constants.{lowest_number}
use Rattle.labels.proofs.Label.is_lowest.Goals as goal

pub returns : goal.returns
returns c = rw lowest_number c.eq.ensures
