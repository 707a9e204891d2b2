-- `labels::Label::lacking` meets its contract: the confidentiality turned.
-- Assumes nothing.
use mathlib.Core.Path.{refl}
use Rattle.principals.specs.Principals.{label, highest, lacking}
use Rattle.labels.proofs.Label.lacking.Goals as goal

pub returns : goal.returns
unfolding lacking label highest
returns c = refl
