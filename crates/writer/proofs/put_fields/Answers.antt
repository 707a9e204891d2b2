-- `writer::put_fields` meets its contract. The fields passed are written.
-- Assumes nothing.
use Rattle.std.proofs.Common.{arith}
use Rattle.model.specs.Listing.{fields}
use Rattle.writer.proofs.Over.{wrote_none, wrote_room, wrote_then}
use Rattle.texts.proofs.Fields.{field_room, fields_more}
use Rattle.writer.proofs.put_fields.Goals as goal

pub loop-n-init : goal.loop-n-init
unfolding fields
loop-n-init c = wrote_none _

pub put_field-at-requires : goal.put_field-at-requires
put_field-at-requires c =
    omega (
      arith,
      wrote_room c.loop-n.invariant,
      field_room c.args.numbers.now c.loop-n.n-index c.loop-n-test.true,
    )

pub loop-n-preserved : goal.loop-n-preserved
loop-n-preserved c = rw (fields_more _ _ c.loop-n-test.true) (wrote_then c.loop-n.invariant c.put_field-at.ensures)
