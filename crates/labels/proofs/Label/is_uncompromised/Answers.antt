-- `labels::Label::is_uncompromised` meets its contract: the code computes as the definition does.
-- Assumes nothing.
use mathlib.Core.Path.{refl}
use Rattle.principals.specs.Principals.{subset, integrity, confidentiality, uncompromised}
use Rattle.labels.proofs.Label.is_uncompromised.Goals as goal

pub returns : goal.returns
unfolding subset integrity confidentiality uncompromised
returns c = refl
