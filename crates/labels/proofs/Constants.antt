-- The numbers of the two named labels, which the constants of the label type hold.
-- Assumes nothing.
use mathlib.Core.Path.{◌≡◌, refl}
use Rattle.principals.specs.Principals.{label, lowest, highest}
use Rattle.labels.specs.Label as machine

-- The lowest label is 240.
pub lowest_number : machine.lowest ≡ 240
unfolding label lowest
lowest_number = refl

-- The highest label is 15.
pub highest_number : machine.highest ≡ 15
unfolding label highest
highest_number = refl
