-- `certify::breaks::leads_within` meets its contract.
-- Assumes nothing.
use mathlib.Core.Path.{◌≡◌}
use mathlib.Core.Bool.{false}
use Rattle.certificates.specs.Certificate.{leads_within}
use Rattle.certify.proofs.breaks.leads_within.Given as goal

abbrev pub invariant-loop-gate : goal.invariant-loop-gate
invariant-loop-gate l = leads_within l.label l.fn.fixed l.gate-index ≡ false
