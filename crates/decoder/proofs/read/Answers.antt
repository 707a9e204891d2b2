-- `decoder::read` meets its contract. The words of what was read are compared with the buffer.
-- Assumes nothing.
use Rattle.decoder.proofs.Laws.{read_compared}
use Rattle.decoder.proofs.read.Goals as goal

pub returns : goal.returns
returns c =
    rw c.then_some.ensures
    (read_compared c.args.buffer.now c.machine_in-machine.ensures c.words_of.ensures c.begins.result c.begins.ensures)
