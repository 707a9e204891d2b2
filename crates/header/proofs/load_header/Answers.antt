-- `header::load_header` asks of `machine_of` what the tests of the M line say: any lent memory of these lengths shows it.
-- Assumes nothing.
use lib.ListN.{replicate, length-replicate}
use Rattle.model.specs.Record.{Bank, lent}
use Rattle.header.proofs.Heading.{header_in_range_lem}
use Rattle.header.proofs.load_header.Goals as goal

pub machine_of-requires : goal.machine_of-requires
machine_of-requires c =
    let some : Bank = lent (replicate c.args.words 0) (replicate c.args.labels 0) in
    header_in_range_lem _ some
    (c.in_default-header_verdict.ensures some (length-replicate c.args.words 0) (length-replicate c.args.labels 0))
