-- `turns::combine` meets its contract.
-- Assumes nothing.
use Rattle.turns.proofs.Assigning.{assigned_if}
use Rattle.turns.proofs.combine.Goals as goal

pub returns : goal.returns
returns c =
    rw (
      ← c.a_of-a.ensures.0,
      ← c.b_of-b.ensures.0,
      ← c.c_of-c.ensures.0,
      ← c.restrictions.ensures,
      ← c.lacking.ensures,
      ← c.may_go-visible.ensures,
      ← c.may_go-ok.ensures,
      ← c.ticks_of.ensures.0,
    ) (assigned_if c.may_go-ok.result _ _ _ _ _ _ c.computed-v.ensures c.assign.ensures)
