-- `jennydusk::load_hex_call::jennydusk_load_hex` meets its contract: the answer of load is handed on, with line 0 beside one
-- that was carried out.
-- Assumes nothing.
use Rattle.std.proofs.Common.{◌≡◌, false, sym, ap, ◌∙◌}
use Rattle.model.specs.Load.{Loading}
use Rattle.encoder.specs.Places.{span}
use Rattle.record_calls.specs.RecordCalls.{is_short}
use Rattle.load_calls.specs.Loads.{after_loading_hex}
use Rattle.load_calls.proofs.Laws.{told_none}
use Rattle.jennydusk.specs.Calls.{load_hex_call}
use Rattle.jennydusk.proofs.load_hex_call.jennydusk_load_hex.Goals as goal

pub returns : goal.returns
unfolding load_hex_call
returns c =
    let buffer = c.args.«record».now in
    let long : is_short span buffer ≡ false = sym c.is_short.ensures ∙ c.if-is_short.false in
    rw long
    (c.after_loading_hex.ensures _ _
    ∙ ap (λ (a : Loading). after_loading_hex a buffer) (told_none c.load_hex-loaded.result _ _ ∙ c.load_hex-loaded.ensures))
