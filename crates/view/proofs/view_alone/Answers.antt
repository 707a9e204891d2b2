-- `view::view_alone` meets its contract: the memory that it holds is the program's, and its output has room for every reply.
-- Assumes nothing.
use mathlib.Core.Path.{refl}
use borrow.Author.Rules.{rules}
use Rattle.model.specs.Program.{program_memory}
use Rattle.view.proofs.Laws.{alone_done, alone_refused, alone_counts}
use Rattle.view.proofs.view_alone.Goals as goal

pub returns-in-Err : goal.returns-in-Err
unfolding program_memory
returns-in-Err c =
    let asked = c.args in
    let whole =
    alone_refused asked.label asked.tick asked.text.now asked.out.now (search rules) _ c.in-Err.ensures
    refl c.number-number.ensures refl c.write_line.ensures in
    record { reply = whole; counted = alone_counts asked.label asked.tick asked.text.now asked.out.now _ whole }

pub returns-in-Ok : goal.returns-in-Ok
unfolding program_memory
returns-in-Ok c =
    let asked = c.args in
    let whole =
    alone_done asked.label asked.tick asked.text.now asked.out.now (search rules) _ c.in-Ok.ensures refl in
    record { reply = whole; counted = alone_counts asked.label asked.tick asked.text.now asked.out.now _ whole }
