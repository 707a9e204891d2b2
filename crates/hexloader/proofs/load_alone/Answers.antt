-- `hexloader::load_alone` meets its contract: the first line is refused, something is behind it, or nothing is.
-- Assumes nothing.
use mathlib.Core.Path.{refl, sym, ap}
use Rattle.model.specs.Record.{lent}
use Rattle.header.specs.Loading.{headed}
use Rattle.hexloader.proofs.Judging.{handed_on}
use Rattle.hexloader.proofs.Answer.{alone_refused, alone_more, alone_good}
use Rattle.hexloader.proofs.load_alone.Goals as goal

pub returns-in_err-machine : goal.returns-in_err-machine
returns-in_err-machine c w l p q =
    rw (handed_on c.from_residual.result _ c.from_residual.ensures.1)
    (alone_refused c.args.text.now (lent w l) _ c.read_line-read.ensures _ (c.in_err-machine.ensures w l p q) refl)

pub returns-then-read-text : goal.returns-then-read-text
returns-then-read-text c w l p q =
    sym (ap (λ (v : _). headed v (lent w l))
    (alone_more c.args.text.now (lent w l) _ c.read_line-read.ensures _ (c.in_ok-machine.ensures w l p q) refl c.if-read-text.true))

pub returns : goal.returns
returns c w l p q =
    alone_good c.args.text.now (lent w l) _ c.read_line-read.ensures _ (c.in_ok-machine.ensures w l p q) refl c.if-read-text.false
