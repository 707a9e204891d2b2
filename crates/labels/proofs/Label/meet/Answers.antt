-- `labels::Label::meet` meets its contract: the meet over whole labels.
-- Assumes nothing.
use native.Mathlib.Omega.{arith}
use Rattle.principals.specs.Principals.{label, lowest, restrictions}
use Rattle.labels.specs.Label.{principals}
use Rattle.principals.proofs.Whole.{whole_meet}
use Rattle.labels.proofs.Label.meet.Goals as goal

pub returns : goal.returns
unfolding restrictions label lowest
returns c = rw (c.restrictions.ensures, c.restrictions-2.ensures) (whole_meet principals _ _ (omega arith) (omega arith))
