-- The theorem: specs/Noninterference.antt states it. The files below this one prove it: Sight says what is seen after a
-- write, Hidden takes a step with the pc label outside, Visible a step each with one control within, Paths brings two
-- machines to one tick, and Trace turns the states of a sequence of calls into so many steps.
-- Assumes nothing.
use Prim.Native.Nat.{ℕ}
use mathlib.Core.Path.{◌≡◌}
use mathlib.Core.Bool.{false}
use native.Mathlib.Omega.{arith}
use mathlib.Core.List.{List}
use mathlib.Core.Bool.{true}
use Rattle.model.specs.Record.{State, newest, in_upcall}
use Rattle.model.specs.Program.{load_image, state_of_load}
use Rattle.noninterference.specs.Noninterference.{Invocation, trace, at_tick, reached, Provisos, Noninterference}
use Rattle.model.specs.Seen.{LowEquivalent, SameSetting}
use Rattle.model.proofs.Load.{Loaded, loaded_ready}
use Rattle.model.proofs.HexLoad.{image_loaded}
use Rattle.noninterference.proofs.Paths.{at_one_tick}
use Rattle.noninterference.proofs.Trace.{Arrived, arrive, trace_row}

-- It is in no upcall.
pub loaded_outside_lem : (s : State) → Loaded s → in_upcall s.control ≡ false
unfolding in_upcall newest
loaded_outside_lem s l = rw (l.second, l.first)

-- The state at a reached tick, of a sequence of calls.
arrived : (ℓ k : ℕ) (s : State) → Loaded s → (qs : List Invocation) → Provisos ℓ k s (trace qs s)
    → reached k s (trace qs s) ≡ true → Arrived ℓ k s (at_tick k s (trace qs s))
arrived ℓ k s l qs p h =
    let r = loaded_ready s l in
    let t = trace_row qs s r in
    let e = t.states in
    rw e (arrive ℓ k t.count s r (rw l.clock (omega arith)) (rw e at h) (rw e at p.steps))

-- From two loaded states: the two are alike at or below ℓ at every tick that both have reached.
pub from_loaded_states : (ℓ k : ℕ) (s t : State) → Loaded s → Loaded t → SameSetting s t → LowEquivalent ℓ s t
    → (qs rs : List Invocation) → Provisos ℓ k s (trace qs s) → Provisos ℓ k t (trace rs t) → reached k s (trace qs s) ≡ true
    → reached k t (trace rs t) ≡ true → LowEquivalent ℓ (at_tick k s (trace qs s)) (at_tick k t (trace rs t))
from_loaded_states ℓ k s t l m same low qs rs p q h g =
    let a = arrived ℓ k s l qs p h in
    let b = arrived ℓ k t m rs q g in
    rw (a.state, b.state)
    (at_one_tick ℓ k a.count b.count s t
    (record {
      one = loaded_ready s l;
      two = loaded_ready t m;
      setting = same;
      alike = record { size = same.size; seen = low.locations };
    })
    p.loaded low.control (loaded_outside_lem s l) (loaded_outside_lem t m) a.allowed b.allowed a.rests b.rests)

-- From two accepted loads: the third demand.
pub noninterference : Noninterference
noninterference ℓ k image image' memory memory' a b =
    from_loaded_states ℓ k (state_of_load (load_image image memory)) (state_of_load (load_image image' memory'))
    (image_loaded image memory a) (image_loaded image' memory' b)
