-- `reader::whole_line` meets its contract: the fields are those behind the letter, and the line is made from them and
-- closed.
-- Assumes nothing.
use Rattle.std.proofs.Common.{ℕ, ◌≡◌, sym, ◌∙◌, arith, replicate, take, length}
use lib.Seq.{length-take-le}
use Rattle.texts.proofs.Text.{count_most, fields_within, no_line}
use Rattle.model.specs.Text.{read_fields, field_count}
use Rattle.reader.specs.Inner.Reading.{fields_of}
use Rattle.reader.proofs.Line.{bad_fields, to_close, cut_short, closes}
use Rattle.reader.proofs.whole_line.Goals as goal
use Rattle.reader.proofs.whole_line.Goals.{After-read_fields}

pub returns-in_err-letter : goal.returns-in_err-letter
returns-in_err-letter c = rw c.from_residual.ensures (no_line _ (omega (arith, c.in_err-letter.ensures.cases)))

pub slice_bounds-numbers-end : goal.slice_bounds-numbers-end
slice_bounds-numbers-end c = rw c.field_count.ensures (count_most _)

-- There are as many places as the letter has fields.
pub slice_bounds-read_fields-end : goal.slice_bounds-read_fields-end
slice_bounds-read_fields-end c = sym (length-take-le _ _ (rw c.field_count.ensures (count_most _)))

-- The fields that were read.
fields_read : (c : After-read_fields)
    → read_fields (field_count c.in_ok-letter.letter.now) c.in_ok-letter.rest.now
    ≡ fields_of c.read_fields.result c.read_fields.new.numbers
fields_read c =
    let l : length (take {A = ℕ} c.field_count.result (replicate 6 0)) ≡ field_count c.in_ok-letter.letter.now =
    length-take-le _ _ (rw c.field_count.ensures (count_most _)) ∙ c.field_count.ensures in
    sym (rw l at c.read_fields.ensures)

pub returns-in_err-end : goal.returns-in_err-end
returns-in_err-end c =
    rw c.from_residual-in_err-end.ensures
    (bad_fields c.in_ok-letter.ensures.cases.0
    (rw c.in_err-end.was at (fields_read (goal.at.returns-in_err-end c).After-read_fields)))

pub overflow_add-end : goal.overflow_add-end
overflow_add-end c = let f = rw c.in_ok-end.was at (fields_read (goal.at.overflow_add-end c).After-read_fields) in
    omega (arith, fields_within _ _ _ f, c.in_ok-letter.ensures.cases.1)

pub returns-in_err-get : goal.returns-in_err-get
returns-in_err-get c =
    rw c.from_residual-in_err-get.ensures
    (cut_short c.in_ok-letter.ensures.cases.0 c.field_count.result
    (rw c.in_ok-end.was at (fields_read (goal.at.returns-in_err-get c).After-read_fields)) c.line_of-line.ensures
    c.in_err-get.ensures.lookup.3)

pub returns : goal.returns
returns c =
    rw c.then_some.ensures
    (closes c.args.text.now _ _ _ (c.in_ok-get.ensures.lookup.3.1 0)
    ∙ to_close c.in_ok-letter.ensures.cases.0 c.field_count.result
    (rw c.in_ok-end.was at (fields_read (goal.at.returns c).After-read_fields)) c.line_of-line.ensures)
