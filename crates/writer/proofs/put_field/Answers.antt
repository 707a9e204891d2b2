-- `writer::put_field` meets its contract. A comma, and the number behind it.
-- Assumes nothing.
use Rattle.std.proofs.Common.{arith}
use Rattle.writer.proofs.Over.{wrote_byte, wrote_then}
use Rattle.writer.proofs.put_field.Goals as goal

pub returns : goal.returns
returns c = wrote_then (wrote_byte 44 c.args.out.now (omega arith)) c.put_number.ensures
