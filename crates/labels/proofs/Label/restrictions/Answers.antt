-- `labels::Label::restrictions` meets its contract: the integrity turned.
-- Assumes nothing.
use mathlib.Core.Path.{refl}
use Rattle.principals.specs.Principals.{label, lowest, restrictions}
use Rattle.labels.proofs.Label.restrictions.Goals as goal

pub returns : goal.returns
unfolding restrictions label lowest
returns c = refl
