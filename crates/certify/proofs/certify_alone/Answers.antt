-- `certify::certify_alone` meets its contract.
-- Assumes nothing.
use mathlib.Core.Path.{refl}
use native.Mathlib.Omega.{arith}
use borrow.Author.Rules.{rules}
use Rattle.model.specs.Program.{program_memory}
use Rattle.certify.proofs.Answer.{refusal_line, certificate_line, alone_wrote, alone_counts}
use Rattle.certify.proofs.certify_alone.Goals as goal

pub returns-in-Ok : goal.returns-in-Ok
unfolding program_memory
returns-in-Ok c =
    let asked = c.args in
    let whole =
    alone_wrote asked.label asked.text.now asked.out.now (search rules) _ c.in-Ok.ensures 86 _
    (certificate_line _ refl) (omega arith) (rw c.numbers_of.ensures at c.write_line.ensures) in
    record { reply = whole; counted = alone_counts asked.label asked.text.now asked.out.now _ whole }

pub returns-in-Err : goal.returns-in-Err
unfolding program_memory
returns-in-Err c =
    let asked = c.args in
    let whole =
    alone_wrote asked.label asked.text.now asked.out.now (search rules) _ c.in-Err.ensures 88 _
    (refusal_line _ refl c.number-number.ensures refl) (omega arith)
    c.write_line-in-Err.ensures in
    record { reply = whole; counted = alone_counts asked.label asked.text.now asked.out.now _ whole }
