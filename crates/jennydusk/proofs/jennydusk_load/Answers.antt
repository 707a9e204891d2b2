-- `jennydusk::jennydusk_load` meets its contract: the answer of load is handed on, with line 0 beside one that was carried out.
-- Assumes nothing.
use Rattle.std.proofs.Common.{◌≡◌, false, sym, ap, ◌∙◌}
use Rattle.model.specs.Load.{Loading}
use Rattle.encoder.specs.Places.{span}
use Rattle.record_calls.specs.RecordCalls.{is_short}
use Rattle.load_calls.specs.Loads.{after_loading}
use Rattle.load_calls.proofs.Laws.{told_none}
use Rattle.jennydusk.specs.Calls.{load_call}
use Rattle.jennydusk.proofs.jennydusk_load.Goals as goal

pub returns : goal.returns
unfolding load_call
returns c =
    let buffer = c.args.«record».now in
    let long : is_short span buffer ≡ false = sym c.is_short.ensures ∙ c.if-is_short.false in
    rw long
    (c.after_loading.ensures _ _
    ∙ ap (λ (a : Loading). after_loading a buffer) (told_none c.load-loaded.result _ _ ∙ c.load-loaded.ensures))
