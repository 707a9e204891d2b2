-- `labels::may_go` meets its contract.
-- Assumes nothing.
use mathlib.Core.Path.{refl}
use Rattle.principals.specs.Principals.{may_go}
use Rattle.labels.proofs.may_go.Goals as goal

pub returns : goal.returns
unfolding may_go
returns c = refl
