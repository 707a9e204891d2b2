-- `machine::carried` meets its contract.
-- Assumes nothing.
use Rattle.machine.proofs.Whole.{carried_of}
use Rattle.machine.proofs.carried.Goals as goal

pub returns : goal.returns
returns c =
    carried_of c.requires.0 c.requires.1 c.pace_of-pace.ensures c.advance-control.ensures
