-- The third demand: noninterference with time, for any two sequences of the public calls. Document 01, "What a label
-- sees", its second paragraph, defines the terms, in this order.
-- Assumes nothing.
use Rattle.std.specs.Prelude.{ℕ, zero, suc, ◌+◌, ◌-◌, ◌≤◌, min, ◌≡◌, Bool, true, false, not, ◌&&◌, ◌||◌, cond, List, [], ◌∷◌, ◌++◌, leb, ltb, take, drop}
use Rattle.std.proofs.lemmas.List.Edits.{sets}
use Rattle.causes.specs.Causes.{is_done}
use Rattle.model.specs.declared.Request.{Request}
use Rattle.model.specs.declared.Request.TheVariants.{Step, Run, RunTo}
use Rattle.model.specs.Record.{Bank, State, Location, machine_of, state_of, lent, label_at}
use Rattle.model.specs.Ops.{Change, write, goto, enter, open_upcall, open_gate, close_gate, stop}
use Rattle.model.specs.Step.{Decision, rest, spend, stall, close, carry, running, decide, step, finishes_by}
use Rattle.model.specs.Answer.{Answer, answer_of}
use Rattle.model.specs.Program.{Image, load_image, Accepted, state_of_load}
use Rattle.model.specs.Seen.{within, exists, LowEquivalent, SameSetting}

-- ---- a sequence of calls

-- What is lent of the words, or of the labels: the whole as it stands, or a part that begins at an index and has so many
-- elements, but always fewer than the size.
pub data Lent : Type 0 where
  whole : Lent
  part : ℕ → ℕ → Lent

-- A call, of step, of run or of run to a tick, with what it is lent of the words and of the labels.
pub record Invocation : Type 0 where
  pub request : Request
  pub words : Lent
  pub labels : Lent

-- The list that is lent.
unfoldable pub lend : ℕ → Lent → List ℕ → List ℕ
lend size whole xs = xs
lend size (part from count) xs = take (min count (size - 1)) (drop from xs)

-- The list that what was lent is part of, once the call has left that as `out`.
unfoldable pub regain : Lent → List ℕ → List ℕ → List ℕ
regain whole xs out = out
regain (part from count) xs out = sets xs from out

-- A call takes the record that the last one returned, and memory as it then stands. Its answer is that of the public call.
unfoldable pub answered : Invocation → State → Answer
answered q s =
    answer_of q.request (machine_of s)
    (lent (lend s.fixed.size q.words s.memory.values) (lend s.fixed.size q.labels s.memory.labels))

-- The next call gets the record that this one gave back, and memory as this one left it.
unfoldable pub after : Invocation → State → State
after q s =
    state_of (answered q s).machine
    (lent (regain q.words s.memory.values (answered q s).memory.values)
    (regain q.labels s.memory.labels (answered q s).memory.labels))

-- The state after a sequence of calls.
unfoldable pub after_all : List Invocation → State → State
after_all [] s = s
after_all (q ∷ qs) s = after_all qs (after q s)

-- ---- the states of a sequence

-- The states after the steps that are done for as long as this holds: so many at the most.
unfoldable pub run_states : (State → Bool) → ℕ → State → List State
run_states more zero s = []
run_states more (suc n) s = let rest = step s ∷ run_states more n (step s) in cond (more s) rest []

-- The states after the steps that a call does: a step does one; a run steps until the end isn't 0; a run to tick k does so
-- as long as the steps finish by k.
unfoldable pub work_states : Request → State → List State
work_states Step s = step s ∷ []
work_states Run s = run_states running (s.fixed.limit - s.control.clock + 1) s
work_states (RunTo k) s = run_states (λ t. running t && finishes_by k t) (s.fixed.limit - s.control.clock + 1) s

-- The states that a call adds to the trace: a refused one adds none.
unfoldable pub call_states : Invocation → State → List State
call_states q s = cond (is_done (answered q s).outcome) (work_states q.request s) []

-- The trace of a sequence of calls: the states after the loaded one, one for each step done.
unfoldable pub trace : List Invocation → State → List State
trace [] s = []
trace (q ∷ qs) s = call_states q s ++ trace qs (after q s)

-- The last state.
unfoldable pub final : State → List State → State
final s [] = s
final s (x ∷ xs) = final x xs

-- The state at tick k is that after the last step finishing at or before k, or the loaded one if there is none. A step
-- finishes at the clock that it leaves.
unfoldable pub at_tick : ℕ → State → List State → State
at_tick k s [] = s
at_tick k s (x ∷ xs) = cond (leb x.control.clock k) (at_tick k x xs) (at_tick k s xs)

-- Tick k is reached when the sequence's last clock is above k or its last end isn't 0.
unfoldable pub reached : ℕ → State → List State → Bool
reached k s xs = ltb k (final s xs).control.clock || not (running (final s xs))

-- ---- the three provisos

-- A step from s to t downgrades a location (the paper's lowers it) when its label is outside ℓ before and within after.
unfoldable pub downgrades : ℕ → State → State → Location → Bool
downgrades ℓ s t x = exists s x && not (within ℓ (label_at s x)) && within ℓ (label_at t x)

-- The change is a gate call.
abbrev pub is_gate_call : Change → Bool
is_gate_call (write x) = false
is_gate_call (goto k) = false
is_gate_call (enter q) = false
is_gate_call (open_upcall k q e) = false
is_gate_call (open_gate g) = true
is_gate_call close_gate = false
is_gate_call stop = false

-- A gate call is carried out.
abbrev pub calls_gate : Decision → Bool
calls_gate rest = false
calls_gate spend = false
calls_gate (stall why) = false
calls_gate (close cause) = false
calls_gate (carry ticks change) = is_gate_call change

-- A step from s to t takes a gate call from outside to within when op 20 passes its checks and is carried out, and p is
-- outside before and within after.
unfoldable pub gate_calls_in : ℕ → State → State → Bool
gate_calls_in ℓ s t =
    calls_gate (decide s) && not (within ℓ s.control.pair.pc) && within ℓ t.control.pair.pc

-- A state has its pc label within and its timing label outside.
unfoldable pub timed_from_outside : ℕ → State → Bool
timed_from_outside ℓ s = within ℓ s.control.pair.pc && not (within ℓ s.control.pair.timing)

-- The provisos on a step from s to t, and on the state that it leaves.
pub record StepProvisos (ℓ : ℕ) (s t : State) : Type 0 where
  pub downgrade : (x : Location) → downgrades ℓ s t x ≡ false
  pub gate : gate_calls_in ℓ s t ≡ false
  pub timing : timed_from_outside ℓ t ≡ false

-- The provisos on the steps of a trace that finish at or before k.
unfoldable pub StepsProvisos : ℕ → ℕ → State → List State → Type 0
StepsProvisos ℓ k s [] = Unit {0}
StepsProvisos ℓ k s (x ∷ xs) = (x.control.clock ≤ k → StepProvisos ℓ s x) × StepsProvisos ℓ k x xs

-- The provisos up to k: on the loaded state, on the steps finishing at or before k and on the states after them.
pub record Provisos (ℓ k : ℕ) (s : State) (xs : List State) : Type 0 where
  pub loaded : timed_from_outside ℓ s ≡ false
  pub steps : StepsProvisos ℓ k s xs

-- ---- the theorem

-- The third demand. Take any label ℓ, any tick k, and any two images that load accepts, each in its own lent memory, whose
-- states have equal setting and are alike at or below ℓ. Whatever sequences of calls the two then get, the same or not: if
-- both meet the provisos up to k and both have reached k, the two are alike at or below ℓ at k.
abbrev pub Noninterference : Type 0
Noninterference =
    (ℓ k : ℕ) (image image' : Image) (memory memory' : Bank) → Accepted (load_image image memory)
    → Accepted (load_image image' memory')
    → (let s = state_of_load (load_image image memory) in
    let t = state_of_load (load_image image' memory') in
    SameSetting s t → LowEquivalent ℓ s t → (qs rs : List Invocation)
    → Provisos ℓ k s (trace qs s) → Provisos ℓ k t (trace rs t) → reached k s (trace qs s) ≡ true
    → reached k t (trace rs t) ≡ true → LowEquivalent ℓ (at_tick k s (trace qs s)) (at_tick k t (trace rs t)))
