-- The two places for open calls, seen from the second.
-- Assumes nothing.
use Prim.Native.Nat.{ℕ}
use mathlib.Core.Path.{◌≡◌, refl}
use mathlib.Core.Bool.{Bool, false, ◌&&◌}
use Rattle.model.specs.declared.Pair.{Pair}
use Rattle.model.specs.declared.Control.{Control}
use Rattle.model.specs.declared.Call.{Call}
use Rattle.model.specs.declared.Call.TheVariants.{Empty, Gate, Upcall}
use Rattle.model.specs.WellFormed.{is_valid, upcall_well_formed, calls_well_formed}

-- What is asked of the place above a gate call.
abbrev pub over_gate : Bool → Control → Call → Bool
over_gate valid c Empty = valid
over_gate valid c (Gate k q) = false
over_gate valid c (Upcall k q e) = valid && upcall_well_formed c q e

-- It is what is asked of both places where the first holds a gate call.
pub calls_gate_lem : (c : Control) (k : ℕ) (q : Pair) (second : Call) → over_gate (is_valid q) c second ≡ calls_well_formed c (Gate k q) second
calls_gate_lem c k q Empty = refl
calls_gate_lem c k q (Gate k' q') = refl
calls_gate_lem c k q (Upcall k' q' e') = refl
