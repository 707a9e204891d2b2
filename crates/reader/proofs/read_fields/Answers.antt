-- `reader::read_fields` meets its contract: the fields before the loop's place have been read in `at` bytes, and their
-- numbers stand at their places.
-- Assumes nothing.
use Rattle.std.proofs.Common.{◌+◌, length, arith, set}
use Rattle.texts.proofs.Text.{field_of_part}
use Rattle.reader.proofs.Fields.{FieldsRead, fields_none, fields_more, fields_bad}
use Rattle.reader.proofs.read_fields.Goals as goal
use Rattle.reader.proofs.read_fields.Goals.{In_ok-field}

pub loop-number-init : goal.loop-number-init
loop-number-init c = fields_none _ _

pub returns-in_err-field : goal.returns-in_err-field
returns-in_err-field c =
    let l = c.loop-number in
    let xs = c.args.text.now in
    rw (
      c.from_residual.ensures,
      fields_bad xs l.numbers l.at l.number-index l.invariant (length c.args.numbers.now) (omega arith)
          (field_of_part xs l.at _ _ c.read_field.ensures c.in_err-field.was),
    )

one_more : (c : In_ok-field)
    → FieldsRead c.args.text.now (set c.loop-number.numbers c.loop-number.number-index c.in_ok-field.field.value)
    (c.loop-number.at + c.in_ok-field.field.length) (c.loop-number.number-index + 1)
one_more c =
    let l = c.loop-number in
    let xs = c.args.text.now in
    fields_more xs l.numbers l.at l.number-index l.invariant c.in_ok-field.field (omega arith)
    (field_of_part xs l.at _ _ c.read_field.ensures c.in_ok-field.was)

pub overflow_add-at : goal.overflow_add-at
overflow_add-at c = omega (arith, (one_more (goal.at.overflow_add-at c).In_ok-field).within)

pub loop-number-preserved : goal.loop-number-preserved
loop-number-preserved c = one_more (goal.at.loop-number-preserved c).In_ok-field
