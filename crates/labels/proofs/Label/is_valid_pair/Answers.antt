-- `labels::Label::is_valid_pair` meets its contract, by what the methods that it calls promise. They require nothing.
-- Assumes nothing.
use Rattle.principals.specs.Principals.{valid_pair}
use Rattle.labels.proofs.Label.is_valid_pair.Goals as goal

pub returns : goal.returns
unfolding valid_pair
returns c = rw (c.flows_to.ensures, c.is_uncompromised.ensures, c.is_uncompromised-2.ensures)
