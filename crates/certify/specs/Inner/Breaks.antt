-- The break that a state is, as its function promises it.
-- Assumes nothing.
use Rattle.std.specs.Prelude.{ℕ, Bool, not, ◌&&◌, cond}
use Rattle.model.specs.declared.Control.{Control}
use Rattle.model.specs.Record.{in_upcall}
use Rattle.model.specs.Seen.{within}
use Rattle.certificates.specs.Certificate.{Certificate, whole}

-- The break of a state with this control, where `opened` says whether a gate leads within; or none.
unfoldable pub break_with : ℕ → Bool → Control → Certificate
break_with ℓ opened c =
    cond (not (within ℓ c.pair.pc) && not (in_upcall c) && opened) (record { cause = 2; tick = c.clock; place = 0 })
    (cond (within ℓ c.pair.pc && not (within ℓ c.pair.timing))
    (record { cause = 3; tick = c.clock; place = c.pc })
    whole)
