-- The hot loop as it is promised: it did steps of the model, and stopped for a reason.
-- Assumes nothing.
use Rattle.std.specs.Prelude.{◌≡◌, ℕ, ◌+◌, ◌-◌, ◌<◌, ◌≤◌, true, false, List}
use Rattle.model.specs.Numbers.{outside_memory, unreadable, by_failure}
use Rattle.model.specs.Record.{State, lent, state_from, in_upcall}
use Rattle.model.specs.WellFormed.{lent_whole}
use Rattle.model.specs.Word.{Op, op_field, decode}
use Rattle.model.specs.Ops.{Change, table}
use Rattle.model.specs.Step.{close, carry, failed, fetched, fetch, known, end_tick, attempt, plan}
use Rattle.parts.specs.declared.stages.Reason.{Reason}
use Rattle.parts.specs.declared.stages.Reason.TheVariants.{Out, Late, Outside, Unreadable, Failed, Rest}
use Rattle.parts.specs.Calls.{deadline_of}
use Rattle.parts.specs.Stages.{is_common_op, fetches_common}
use Rattle.turns.specs.declared.Context.{Context}
use Rattle.turns.specs.Turned.{Mirrors}
use Rattle.sprint.specs.declared.Place.{Place}
use Rattle.sprint.specs.declared.Pause.{Pause}
use Rattle.sprint.specs.Skim.{skim}

-- ---- what the loop is told

-- The state s with what the loop holds in its place: size, pair, pc, clock, registers and memory. The clock is told by
-- the ticks that are left to the deadline, the present one counted.
abbrev pub state_with : State → Context → ℕ → ℕ → List ℕ → List ℕ → List ℕ → List ℕ → State
state_with s context pc left values labels words marks =
    state_from (record { size = context.size; limit = s.fixed.limit; errorpc = s.fixed.errorpc; count = s.fixed.count; gates = s.fixed.gates })
    (record { pc = pc; pair = context.pair; clock = context.deadline + 1 - left; first = s.control.first; second = s.control.second; end = s.control.end; why = s.control.why })
    values labels words marks

-- The state runs, an upcall is open or not as the loop is told, and no common op that finishes by its deadline is barred.
pub record Timed (s : State) (context : Context) : Type 0 where
  pub running : s.control.end ≡ 0
  pub upcall : in_upcall s.control ≡ context.up
  pub due : context.deadline ≤ deadline_of context.up (end_tick s) s.fixed.limit

-- ---- why it stops

-- A common op is tried that would finish past the deadline.
pub record Overdue (s : State) (deadline : ℕ) : Type 0 where
  pub word : ℕ
  pub op : Op
  pub ticks : ℕ
  pub change : Change
  pub fetches : fetch s ≡ fetched word op
  pub common : is_common_op op ≡ true
  pub tries : attempt s (table s word op) ≡ carry ticks change
  pub long : (table s word op).ticks ≡ ticks
  pub some : 0 < ticks
  pub past : deadline < s.control.clock + ticks

-- The word w is fetched, and its op is no common one.
pub record Uncommon (s : State) (w : ℕ) : Type 0 where
  pub word : fetch s ≡ known w (decode (op_field w))
  pub within : s.control.pc < s.fixed.size
  pub op : fetches_common (known w (decode (op_field w))) ≡ false

-- What each reason to stop says of the state.
abbrev pub Stopped : Reason → ℕ → State → Type 0
Stopped Out deadline s = ⊥
Stopped Late deadline s = Overdue s deadline
Stopped Outside deadline s = fetch s ≡ failed outside_memory
Stopped Unreadable deadline s = fetch s ≡ failed unreadable
Stopped Failed deadline s = (plan s (fetch s) ≡ close by_failure) × (fetches_common (fetch s) ≡ true) × (in_upcall s.control ≡ true)
Stopped (Rest w) deadline s = Uncommon s w

-- Why the loop paused with so many ticks left: none is left, or a reason to stop.
abbrev pub Paused : Reason → ℕ → ℕ → State → Type 0
Paused Out left deadline s = left ≡ 0
Paused Late left deadline s = Stopped Late deadline s
Paused Outside left deadline s = Stopped Outside deadline s
Paused Unreadable left deadline s = Stopped Unreadable deadline s
Paused Failed left deadline s = Stopped Failed deadline s
Paused (Rest w) left deadline s = Stopped (Rest w) deadline s

-- ---- what it promises

-- From one state to another by so many common ops, each of which took a tick or more, and why no further.
pub record Ran (before after : State) (deadline left left' : ℕ) (reason : Reason) : Type 0 where
  pub count : ℕ
  pub skims : skim count before ≡ record { state = after; left = 0 }
  pub took : left' + count ≤ left
  pub still : count ≡ 0 → left' ≡ left
  pub some : 0 < left → 0 < left'
  pub paused : Paused reason left' deadline after

-- From a place, registers and memory the loop went to r's and these: where memory is lent too short, nowhere; and else,
-- if it was told the truth, by steps of the model, whatever the rest of the state.
pub record Sprinted (context : Context) (start : Place) (values turned words marks : List ℕ) (r : Pause) (values' words' : List ℕ) : Type 0 where
  pub short :
      lent_whole context.size (lent words marks) ≡ false
      → (r ≡ record { place = start; reason = Out }) × (values' ≡ values) × (words' ≡ words)
  pub ran :
      lent_whole context.size (lent words marks) ≡ true → start.left ≤ context.deadline + 1
      → (s : State) (labels : List ℕ) → Mirrors labels turned
      → Timed (state_with s context start.pc start.left values labels words marks) context
      → Ran (state_with s context start.pc start.left values labels words marks)
      (state_with s context r.place.pc r.place.left values' labels words' marks) context.deadline start.left r.place.left r.reason
