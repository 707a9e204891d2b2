-- `reader::read_field` meets its contract: a comma, then the number of the part behind it.
-- Assumes nothing.
use Rattle.std.proofs.Common.{◌≡◌, ap, get_or, ◌∙◌, rules}
use Rattle.model.specs.Text.{number}
use Rattle.texts.proofs.Text.{part, field_by_byte}
use Rattle.reader.proofs.read_field.Goals as goal

pub returns-in-44 : goal.returns-in-44
returns-in-44 c =
    let comma : get_or c.args.text.now 0 0 ≡ 44 = search rules in
    rw (field_by_byte c.args.text.now, comma) (c.read_number.ensures ∙ ap number (part 1 c.args.text.now))
