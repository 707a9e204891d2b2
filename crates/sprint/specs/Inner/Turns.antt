-- One turn of the hot loop, as its functions promise it: by equation with what a step of the model does.
-- Assumes nothing.
use Rattle.std.specs.Prelude.{◌≡◌, ℕ, ◌+◌, ◌%◌, ◌^◌, ◌<◌, ◌≤◌, true, cond, ◌&&◌, List, bit_or, nat_lt, slice_index, slice_index_or, slice_set, ⊤}
use Rattle.principals.specs.Principals.{may_go}
use Rattle.labels.specs.Label.{restrictions, lacking}
use Rattle.model.specs.Numbers.{register_count}
use Rattle.model.specs.Record.{State, state_from}
use Rattle.model.specs.Word.{op_field, a_field, b_field, decode}
use Rattle.model.specs.Ops.{writable}
use Rattle.model.specs.Step.{known, fetch, step, moved}
use Rattle.parts.specs.declared.stages.Reason.{Reason}
use Rattle.turns.specs.declared.Spot.{Spot}
use Rattle.turns.specs.declared.Turn.{Turn}
use Rattle.turns.specs.declared.Turn.TheVariants.{Going, Stopping}
use Rattle.turns.specs.Turned.{Mirrors}
use Rattle.turns.specs.Turns.{next, timed, taken, assigned}
use Rattle.sprint.specs.Skim.{is_common}
use Rattle.sprint.specs.Sprint.{state_with, Timed, Stopped}

-- ---- what the ops on memory and op 14 answer

-- Register a got word Rb if the op finishes by the deadline, the check of op 9 passed and it isn't register 0.
pub record LoadTurn (spot : Spot) (before turned words marks : List ℕ) (r : Turn) (after : List ℕ) : Type 0 where
  pub turn : r ≡ timed 3 (next spot) spot.left
  pub values :
      let w = spot.word in
      let to = slice_index_or before (b_field w) 0 in
      let held = bit_or (bit_or (restrictions spot.context.pair.pc) (slice_index turned (b_field w))) (restrictions (slice_index marks to)) in
      after ≡ cond (nat_lt 3 spot.left)
      (cond (nat_lt to spot.context.size && may_go held (slice_index turned (a_field w + register_count)) && writable (a_field w))
      (slice_set before (a_field w) (slice_index words to))
      before)
      before

-- Word Rb got Ra if the op finishes by the deadline and the check of op 10 passed.
pub record StoreTurn (spot : Spot) (values turned before marks : List ℕ) (r : Turn) (after : List ℕ) : Type 0 where
  pub turn : r ≡ timed 3 (next spot) spot.left
  pub words :
      let w = spot.word in
      let to = slice_index_or values (b_field w) 0 in
      let held = bit_or (bit_or (restrictions spot.context.pair.pc) (slice_index turned (b_field w))) (slice_index turned (a_field w)) in
      after ≡ cond (nat_lt 3 spot.left)
      (cond (nat_lt to spot.context.size && may_go held (lacking (slice_index marks to))) (slice_set before to (slice_index values (a_field w))) before)
      before

-- Op 14: register a got the clock, which makes the deadline's next tick with the ticks that are left, in 32 bits.
pub record ClockTurn (spot : Spot) (before turned : List ℕ) (r : Turn) (after : List ℕ) : Type 0 where
  pub clock : ℕ
  pub short : clock < 2 ^ 32
  pub counted : (clock + spot.left) % 2 ^ 32 ≡ (spot.context.deadline + 1) % 2 ^ 32
  pub assigned :
      let a = a_field spot.word in
      let held = bit_or (restrictions spot.context.pair.pc) (restrictions spot.context.pair.timing) in
      taken r after ≡ assigned before a (may_go held (slice_index turned (a + register_count))) clock 1 spot

-- ---- what a turn means to the state

-- The state s at another pc, so many ticks later, with other register values and words.
abbrev pub moving : State → ℕ → ℕ → List ℕ → List ℕ → State
moving s pc ticks values words =
    state_from s.fixed (moved s.control (s.control.clock + ticks) pc) values s.registers.labels words s.memory.labels

-- A turn that did a step: it is one of the model, of a common op.
pub record Goes (s : State) (left pc ticks : ℕ) (values words : List ℕ) : Type 0 where
  pub common : is_common s ≡ true
  pub steps : step s ≡ moving s pc ticks values words
  pub some : 0 < ticks
  pub less : ticks < left

-- A turn that stopped: for a reason, with registers and memory left.
pub record Stops (s : State) (deadline : ℕ) (why : Reason) (values words : List ℕ) : Type 0 where
  pub reason : Stopped why deadline s
  pub registers : values ≡ s.registers.values
  pub memory : words ≡ s.memory.values

-- A turn in the state s.
abbrev pub Did : State → ℕ → ℕ → Turn → List ℕ → List ℕ → Type 0
Did s deadline left (Going pc ticks) values words = Goes s left pc ticks values words
Did s deadline left (Stopping why) values words = Stops s deadline why values words

-- What a turn at a fetched word promises, for every state that the loop's view fits.
abbrev pub Common : Spot → List ℕ → List ℕ → List ℕ → List ℕ → Turn → List ℕ → List ℕ → Type 0
Common spot values turned words marks r values' words' =
    (s : State) (labels : List ℕ) → Mirrors labels turned → spot.left ≤ spot.context.deadline + 1
    → let v = state_with s spot.context spot.pc spot.left values labels words marks in
    Timed v spot.context → fetch v ≡ known spot.word (decode (op_field spot.word))
    → Did v spot.context.deadline spot.left r values' words'

-- A turn that did a step took a tick or more, and fewer than were left, whatever the state.
abbrev pub Forward : Spot → Turn → Type 0
Forward spot (Going pc ticks) = (0 < ticks) × (ticks < spot.left)
Forward spot (Stopping why) = ⊤
