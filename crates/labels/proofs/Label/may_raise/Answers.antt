-- `labels::Label::may_raise` meets its contract, by what the methods that it calls promise. They require nothing.
-- Assumes nothing.
use Rattle.principals.specs.Principals.{may_raise}
use Rattle.labels.proofs.Label.may_raise.Goals as goal

pub returns : goal.returns
unfolding may_raise
returns c =
    rw (
      c.flows_to.ensures,
      c.flows_to-2.ensures,
      c.flows_to-3.ensures,
      c.reflection.ensures,
    )
