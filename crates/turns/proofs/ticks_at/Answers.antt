-- `turns::ticks_at` meets its contract.
-- Assumes nothing.
use Rattle.std.proofs.Common.{refl, ◌∙◌, arith}
use Rattle.model.specs.Word.{divide, remainder, arithmetic, decode}
use Rattle.turns.proofs.Ticks.{brief, ticks_by, memory_by, multiply_by}
use Rattle.turns.proofs.ticks_at.Goals as goal

pub returns-in-8 : goal.returns-in-8
returns-in-8 c =
    multiply_by _ _ _ _ c.op_of.ensures c.in-8.is c.b_of-b.ensures.0
    c.c_of-c.ensures.0 c.lacking.ensures c.may_go-visible.ensures c.ticks_of.ensures.0

pub returns-in-9 : goal.returns-in-9
returns-in-9 c = memory_by _ _ _ _ c.op_of.ensures (omega arith) (omega arith)

pub returns-in-10 : goal.returns-in-10
returns-in-10 c = memory_by _ _ _ _ c.op_of.ensures (omega arith) (omega arith)

pub returns-in-23 : goal.returns-in-23
unfolding decode
returns-in-23 c =
    c.ticks_of-in-23.ensures.0 ∙ ticks_by _ _ _ _ c.op_of.ensures (arithmetic divide) c.in-23.is refl

pub returns-in-24 : goal.returns-in-24
unfolding decode
returns-in-24 c =
    c.ticks_of-in-24.ensures.0 ∙ ticks_by _ _ _ _ c.op_of.ensures (arithmetic remainder) c.in-24.is refl

pub returns-in_default : goal.returns-in_default
returns-in_default c = brief _ _ _ _ c.op_of.ensures (((((tt, λ e. omega arith), λ e. omega arith), λ e. omega arith), λ e. omega arith), λ e. omega arith)
