-- `labels::Label::may_relabel` meets its contract, by what the methods that it calls promise. They require nothing.
-- Assumes nothing.
use Rattle.principals.specs.Principals.{may_relabel}
use Rattle.labels.proofs.Label.may_relabel.Goals as goal

pub returns : goal.returns
unfolding may_relabel
returns c =
    rw (
      c.flows_to.ensures,
      c.meet.ensures,
      c.is_uncompromised.ensures,
      c.flows_to-2.ensures,
      c.reflection.ensures,
    )
