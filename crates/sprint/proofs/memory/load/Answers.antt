-- `sprint::memory::load` meets its contract.
-- Assumes nothing.
use Rattle.std.proofs.Common.{le-ltb, lt-ltb}
use Rattle.turns.proofs.Assigning.{assigned_is, assigned_turn}
use Rattle.sprint.proofs.memory.load.Goals as goal

pub returns-then-rb-context : goal.returns-then-rb-context
returns-then-rb-context c =
    record {
      turn = assigned_turn _ _ _ _ _ _ c.assign.ensures;
      values =
          rw (
            ← c.a_of-a.ensures.0,
            ← c.b_of-b.ensures.0,
            lt-ltb _ _ c.if-rb-context.true,
            ← c.index-at.ensures,
            ← c.item_or.ensures,
            ← c.item_or-then-rb-context.ensures,
            ← c.restrictions.ensures,
            ← c.restrictions-then-rb-context.ensures,
            ← c.may_go-ok.ensures,
          ) (assigned_is _ _ _ _ _ _ c.a_of-a.ensures.1 c.assign.ensures);
    }

pub returns : goal.returns
returns c =
    record {
      turn = assigned_turn _ _ _ _ _ _ c.assign-2.ensures;
      values =
          rw (← c.b_of-b.ensures.0, le-ltb _ _ c.if-rb-context.false)
          (assigned_is _ _ _ _ _ _ c.a_of-a.ensures.1 c.assign-2.ensures);
    }
