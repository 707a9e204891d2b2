-- `hexreader::read_record` meets its contract: a record that doesn't end is bad, and any other is read by its type.
-- Assumes nothing.
use Rattle.hexreader.proofs.Laws.{read_bad, frame_within, read_whole}
use Rattle.hexreader.proofs.read_record.Goals as goal

pub returns-in_default : goal.returns-in_default
returns-in_default c = read_bad c.args.text.now c.in_default.ensures

pub record_of-requires : goal.record_of-requires
record_of-requires c = frame_within c.args.text.now _ c.in-Some.ensures

pub returns : goal.returns
returns c = read_whole c.args.text.now _ c.in-Some.ensures _ c.record_of.ensures
