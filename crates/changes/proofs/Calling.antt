-- Laws about the state at an op: its newest call, and numbers of gates.
-- Assumes nothing.
use Prim.Native.Nat.{ℕ, ◌≤◌}
use mathlib.Core.Path.{◌≡◌, refl, sym, ap, ◌∙◌}
use mathlib.Core.Bool.{Bool, true, false, cond, false≢true}
use mathlib.Core.List.{List}
use native.Mathlib.Omega.{arith}
use lib.Dec.{eqb}
use lib.ListN.{length, get_or, get_or-eq_default}
use Rattle.model.specs.declared.Call.{Call}
use Rattle.model.specs.declared.Call.TheVariants.{Empty, Gate, Upcall}
use Rattle.model.specs.declared.CallGate.{CallGate}
use Rattle.model.specs.declared.Fixed.{Fixed}
use Rattle.model.specs.Record.{state_from, is_gate, is_upcall, pair_of, end_tick_of, in_upcall}
use Rattle.model.specs.WellFormed.{no_gate}
use Rattle.model.specs.Step.{end_tick}
use Rattle.parts.specs.declared.live.Frame.{Frame}
use Rattle.parts.specs.declared.live.Live.{Live}
use Rattle.parts.specs.Live.{call_of, upcall_ends, control_of}
use Rattle.parts.proofs.Frames.{newest_is}

-- ---- the newest call

module _ (live : Live) where
  -- It is in an upcall where the newest frame holds one.
  pub in_upcall_lem : in_upcall (control_of live) ≡ is_upcall (call_of live.newest)
  unfolding in_upcall
  in_upcall_lem = ap is_upcall (newest_is live)

  -- Where the newest frame holds an upcall, the end tick is the frame's.
  pub end_tick_lem : is_upcall (call_of live.newest) ≡ true → (fixed : Fixed) (values labels words marks : List ℕ)
      → end_tick (state_from fixed (control_of live) values labels words marks) ≡ live.newest.end
  unfolding end_tick
  end_tick_lem u fixed values labels words marks =
      ap end_tick_of (newest_is live) ∙ sym (upcall_ends live.newest u)

-- A frame that holds a gate call has the pair that is kept.
pub kept_pair_lem : (f : Frame) → is_gate (call_of f) ≡ true → pair_of (call_of f) ≡ f.pair
unfolding call_of
kept_pair_lem f = go (eqb f.kind 0) (eqb f.kind 1)
  where
    go : (none gate : Bool)
        → let c : Call = cond none Empty (cond gate (Gate f.back f.pair) (Upcall f.back f.pair f.end)) in
        is_gate c ≡ true → pair_of c ≡ f.pair
    go true gate e = absurd (false≢true e)
    go false true e = refl
    go false false e = absurd (false≢true e)

-- ---- numbers of gates

-- Behind the last gate there is none.
pub no_gate_lem : (gates : List CallGate) (n k : ℕ) → length gates ≡ n → n ≤ k → no_gate ≡ get_or gates k no_gate
no_gate_lem gates n k e h = let beyond : length gates ≤ k = omega (arith, e) in sym (get_or-eq_default gates no_gate beyond)
