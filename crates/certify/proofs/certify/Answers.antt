-- `certify::certify` meets its contract.
-- Assumes nothing.
use mathlib.Core.Path.{refl}
use Rattle.std.proofs.lemmas.Result.{err_from_is_err_and}
use Rattle.model.specs.Record.{lent}
use Rattle.certify.proofs.Answer.{loaded_fit, certified_refused, certified_done}
use Rattle.certify.proofs.certify.Goals as goal

pub returns-in_err-machine : goal.returns-in_err-machine
returns-in_err-machine c =
    let told = err_from_is_err_and c.from_residual.result c.from_residual.ensures.1 in
    rw (told.1, told.2)
    (certified_refused c.args.text.now (lent c.args.words.now c.args.labels.now) _ c.in_err-machine.ensures c.args.label refl)

pub watch-requires : goal.watch-requires
watch-requires c = loaded_fit c.args.text.now (lent c.args.words.now c.args.labels.now) _ c.in_ok-machine.ensures refl

pub returns : goal.returns
returns c =
    certified_done c.args.text.now (lent c.args.words.now c.args.labels.now) _ c.in_ok-machine.ensures refl c.watch.ensures
