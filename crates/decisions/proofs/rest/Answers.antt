-- `decisions::rest` meets its contract.
-- Assumes nothing.
use mathlib.Core.Path.{refl}
use native.Mathlib.Omega.{arith}
use borrow.Author.Rules.{rules}
use Rattle.model.specs.Ops.{table}
use Rattle.model.specs.Word.{decode}
use Rattle.decisions.proofs.Deciding.{op_changes, op_decides, op_unknown}
use Rattle.decisions.proofs.rest.Goals as goal

pub returns-in-15 : goal.returns-in-15
unfolding decode table
returns-in-15 c = op_changes _ c.op_of.ensures c.in-15.is refl refl (c.set_label.ensures.0 _) c.set_label.ensures.1 c.in_time.ensures (omega arith) (λ s. (refl, refl, refl))

pub returns-in-16 : goal.returns-in-16
unfolding decode table
returns-in-16 c = op_changes _ c.op_of.ensures c.in-16.is refl refl (c.set_label-in-16.ensures.0 _) c.set_label-in-16.ensures.1 c.in_time-in-16.ensures (omega arith) (λ s. (refl, refl, refl))

pub returns-in-17 : goal.returns-in-17
unfolding decode table
returns-in-17 c = op_changes _ c.op_of.ensures c.in-17.is refl refl (c.set_pair.ensures.0 _) c.set_pair.ensures.1 c.in_time-in-17.ensures (omega arith) (λ s. (refl, refl, refl))

pub returns-in-18 : goal.returns-in-18
unfolding decode table
returns-in-18 c = op_changes _ c.op_of.ensures c.in-18.is refl refl (c.upcall.ensures.0 _) c.upcall.ensures.1 c.in_time-in-18.ensures (omega arith) (λ s. (refl, refl, refl))

pub returns-in-19 : goal.returns-in-19
unfolding decode
returns-in-19 c = op_decides _ c.op_of.ensures c.in-19.is refl refl (c.end_upcall.ensures _ _ _)

pub returns-in-20 : goal.returns-in-20
unfolding decode table
returns-in-20 c = op_changes _ c.op_of.ensures c.in-20.is refl refl c.call_gate.ensures.0 c.call_gate.ensures.1 c.in_time-in-20.ensures (omega arith) (λ s. (refl, refl, refl))

pub returns-in-21 : goal.returns-in-21
unfolding decode table
returns-in-21 c = op_changes _ c.op_of.ensures c.in-21.is refl refl (c.return_gate.ensures.0 _ _ _ _) c.return_gate.ensures.1 c.in_time-in-21.ensures (omega arith) (λ s. (refl, refl, refl))

pub returns-in-22 : goal.returns-in-22
unfolding decode
returns-in-22 c = op_decides _ c.op_of.ensures c.in-22.is refl refl (c.halt.ensures _ _ _)

pub returns-in_default : goal.returns-in_default
returns-in_default c = op_unknown _ c.op_of.ensures (search rules) (c.fault.ensures _ _ _ refl)
