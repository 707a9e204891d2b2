-- `labels::Label::reflection` meets its contract: the code computes as the definition does.
-- Assumes nothing.
use mathlib.Core.Path.{refl}
use Rattle.principals.specs.Principals.{label, integrity, confidentiality, reflection}
use Rattle.labels.proofs.Label.reflection.Goals as goal

pub returns : goal.returns
unfolding label integrity confidentiality reflection
returns c = refl
