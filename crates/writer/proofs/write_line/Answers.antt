-- `writer::write_line` meets its contract. Either test that fails leaves the output; else letter, fields and LF are
-- written.
-- Assumes nothing.
use Rattle.std.proofs.Common.{ℕ, ◌+◌, ap, arith}
use Rattle.texts.proofs.Fields.{fields_most}
use Rattle.writer.proofs.Answer.{LineCount, not_a_line, no_room, line_written}
use Rattle.writer.proofs.write_line.Goals as goal
use Rattle.writer.proofs.write_line.Goals.{After-fields_length-count}

pub returns-then-numbers-gt-MOST_FIELDS : goal.returns-then-numbers-gt-MOST_FIELDS
returns-then-numbers-gt-MOST_FIELDS c = not_a_line _ _ _ (omega arith)

pub overflow_add-count : goal.overflow_add-count
overflow_add-count c = omega (arith, fields_most c.args.numbers.now)

-- The length is that of a line.
counted : (c : After-fields_length-count) → LineCount c.args.numbers.now (2 + c.fields_length-count.result)
counted c = record { few = omega arith; counted = ap (λ (n : ℕ). 2 + n) c.fields_length-count.ensures }

pub returns-then-out-count : goal.returns-then-out-count
returns-then-out-count c =
    no_room _ _ _ (counted (goal.at.returns-then-out-count c).After-fields_length-count) c.if-out-count.true

pub returns : goal.returns
returns c =
    (line_written _ _ _ (counted (goal.at.returns c).After-fields_length-count) c.if-out-count.false
    c.put_fields-last.ensures).line
