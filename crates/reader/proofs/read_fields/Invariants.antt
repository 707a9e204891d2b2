-- `reader::read_fields` meets its contract: the fields before the loop's place have been read in `at` bytes, and their
-- numbers stand at their places.
-- Assumes nothing.
use Rattle.reader.proofs.Fields.{FieldsRead}
use Rattle.reader.proofs.read_fields.Given as goal

abbrev pub invariant-loop-number : goal.invariant-loop-number
invariant-loop-number l = FieldsRead l.text l.numbers l.at l.number-index
