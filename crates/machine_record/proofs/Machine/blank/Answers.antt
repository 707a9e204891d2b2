-- `machine_record::Machine::blank` meets its contract: the constant of the label type is the lowest label.
-- Assumes nothing.
use Rattle.labels.proofs.Constants.{lowest_number}
use Rattle.machine_record.proofs.Machine.blank.Goals as goal

pub returns : goal.returns
returns c = rw lowest_number
