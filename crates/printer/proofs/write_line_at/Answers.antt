-- `printer::write_line_at` meets its contract. In the rest from `at` on, or measured where the output ends before.
-- Assumes nothing.
use native.Mathlib.Omega.{arith}
use mathlib.Core.List.{[]}
use Rattle.writer.proofs.Answer.{line_answer, answer_most}
use Rattle.writer.proofs.Over.{rest}
use Rattle.printer.proofs.Places.{placed_rest, placed_beyond}
use Rattle.printer.proofs.write_line_at.Goals as goal

pub overflow_add-result : goal.overflow_add-result
overflow_add-result c =
    omega (arith, answer_most c.args.letter c.args.numbers.now [] c.requires.1 c.write_line.ensures)

pub returns-then-out-at : goal.returns-then-out-at
returns-then-out-at c =
    placed_beyond _ _ [] _ c.if-out-at.true
    (line_answer c.args.letter c.args.numbers.now [] c.requires.1 c.write_line.ensures)

pub overflow_add-result-2 : goal.overflow_add-result-2
overflow_add-result-2 c =
    omega (
      arith,
      answer_most c.args.letter c.args.numbers.now (rest c.args.at c.args.out.now) c.requires.1
          c.write_line-2.ensures,
    )

pub returns : goal.returns
returns c =
    placed_rest _ c.args.out.now _ c.if-out-at.false
    (line_answer c.args.letter c.args.numbers.now (rest c.args.at c.args.out.now) c.requires.1
    c.write_line-2.ensures)
