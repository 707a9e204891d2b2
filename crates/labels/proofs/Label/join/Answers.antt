-- `labels::Label::join` meets its contract: the join over whole labels.
-- Assumes nothing.
use native.Mathlib.Omega.{arith}
use Rattle.principals.specs.Principals.{label, lowest, restrictions}
use Rattle.labels.specs.Label.{principals}
use Rattle.principals.proofs.Whole.{whole_join}
use Rattle.labels.proofs.Label.join.Goals as goal

pub returns : goal.returns
unfolding restrictions label lowest
returns c = rw (c.restrictions.ensures, c.restrictions-2.ensures) (whole_join principals _ _ (omega arith) (omega arith))
