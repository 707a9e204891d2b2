-- One step, the run, and the run to a tick: document 01, "One step". A step has two stages. The first decides: it reads the state, changes
-- nothing, and says what would happen and at which clock that would finish. The second applies the decision.
-- Assumes nothing.
use Rattle.std.specs.Prelude.{ℕ, zero, suc, ◌+◌, ◌-◌, Bool, true, false, ◌&&◌, ◌||◌, cond, leb, ltb, eqb, set}
use Rattle.std.proofs.Math.Option.{Option, none, some}
use Rattle.labels.specs.Label.{flows}
use Rattle.causes.specs.Tests.{unless}
use Rattle.model.specs.Numbers.{halted, clock_spent, stalled, outside_memory, unreadable, unknown_op, by_its_end, by_spent_time, by_failure}
use Rattle.model.specs.declared.Pair.{Pair}
use Rattle.model.specs.declared.Control.{Control}
use Rattle.model.specs.declared.Call.{Call}
use Rattle.model.specs.declared.Call.TheVariants.{Empty, Gate, Upcall}
use Rattle.model.specs.Record.{Bank, State, Location, register, word, value_at, label_at, is_empty, return_of, pair_of, end_tick_of, newest, in_upcall}
use Rattle.model.specs.Word.{Op, op_field, decode}
use Rattle.model.specs.Ops.{Write, nothing, value, label, Change, write, goto, enter, open_upcall, open_gate, close_gate, stop, Effect, does, ends, Row, table}

-- ---- the fetch

-- What a fetch gives: a failure with its why, or a word and its op.
pub data Fetched : Type 0 where
  failed : ℕ → Fetched
  fetched : ℕ → Op → Fetched

-- The op is unknown: why 3.
abbrev pub known : ℕ → Option Op → Fetched
known w none = failed unknown_op
known w (some op) = fetched w op

-- The label of the word at the pc flows to p.
abbrev pub fetch_allowed : State → Bool
fetch_allowed s = flows (label_at s (word s.control.pc)) s.control.pair.pc

-- Fetch fails when the pc is not below the size (why 1), the word's label doesn't flow to p (2), or the op is unknown
-- (3), tried in that order.
unfoldable pub fetch : State → Fetched
fetch s =
    unless (ltb s.control.pc s.fixed.size) (failed outside_memory)
    (unless (fetch_allowed s) (failed unreadable)
    (known (value_at s (word s.control.pc)) (decode (op_field (value_at s (word s.control.pc))))))

-- ---- the first stage: what a step would do

-- What a step does: it leaves an ended record as it is; spends the clock; stalls with a why; closes the upcall with a
-- cause; or carries out a change in so many ticks.
pub data Decision : Type 0 where
  rest : Decision
  spend : Decision
  stall : ℕ → Decision
  close : ℕ → Decision
  carry : ℕ → Change → Decision

-- The end tick of the newest call.
unfoldable pub end_tick : State → ℕ
end_tick s = end_tick_of (newest s.control)

-- Closing an upcall finishes at its end tick + 1, one tick past its time (a departure from the source).
abbrev pub closing_tick : State → ℕ
closing_tick s = end_tick s + 1

-- The clock that a decision leaves: the clock and the ticks, or where it closes an upcall the tick for that.
unfoldable pub finish : State → Decision → ℕ
finish s rest = s.control.clock
finish s spend = s.fixed.limit
finish s (stall why) = s.control.clock
finish s (close cause) = closing_tick s
finish s (carry ticks change) = s.control.clock + ticks

-- A failed fetch closes an upcall with cause 3. Outside one it sets the pc to the error pc in 1 tick, or where the pc
-- stands there already the run ends.
unfoldable pub fault : State → ℕ → Decision
fault s why =
    cond (in_upcall s.control) (close by_failure)
    (cond (eqb s.control.pc s.fixed.errorpc) (stall why) (carry 1 (goto s.fixed.errorpc)))

-- An op that passes its check: its change in its ticks, or the end of the upcall with cause 1.
abbrev pub passed : ℕ → Effect → Decision
passed ticks (does change) = carry ticks change
passed ticks ends = close by_its_end

-- A failed check only adds 1 to the pc, in the same ticks; of a strict op it closes an upcall with cause 3.
unfoldable pub attempt : State → Row → Decision
attempt s r =
    cond r.check (passed r.ticks r.effect)
    (cond (r.strict && in_upcall s.control) (close by_failure) (carry r.ticks (write nothing)))

-- In an upcall an op that would finish past the end tick isn't carried out: cause 2. A departure: spent time goes to the
-- return pc, not to a handler.
abbrev pub in_time : State → Decision → Decision
in_time s rest = rest
in_time s spend = spend
in_time s (stall why) = stall why
in_time s (close cause) = close cause
in_time s (carry ticks change) =
    cond (in_upcall s.control && ltb (end_tick s) (s.control.clock + ticks)) (close by_spent_time) (carry ticks change)

-- What a running record would do, were it not for the limit.
abbrev pub plan : State → Fetched → Decision
plan s (failed why) = fault s why
plan s (fetched w op) = in_time s (attempt s (table s w op))

-- What would finish beyond the limit, and at clock = limit everything.
unfoldable pub beyond_limit : State → Decision → Bool
beyond_limit s d = ltb s.fixed.limit (finish s d) || eqb s.control.clock s.fixed.limit

-- A step that would finish beyond the limit only spends the clock.
unfoldable pub in_limit : State → Decision → Decision
in_limit s d = cond (beyond_limit s d) spend d

-- The record is running: its end is 0.
unfoldable pub running : State → Bool
running s = eqb s.control.end 0

-- What a step does.
unfoldable pub decide : State → Decision
decide s = cond (running s) (in_limit s (plan s (fetch s))) rest

-- A change is carried out, or an op passes by: neither the end tick nor the limit bars it.
abbrev pub is_carried : Decision → Bool
is_carried rest = false
is_carried spend = false
is_carried (stall why) = false
is_carried (close cause) = false
is_carried (carry ticks change) = true

-- ---- the second stage: the decision applied

-- A value or a label of a bank set.
abbrev pub set_value : ℕ → Bank → ℕ → Bank
set_value v b k = record { values = set b.values k v; labels = b.labels }

-- The label at index k of a bank set.
abbrev pub set_label_at : ℕ → Bank → ℕ → Bank
set_label_at l b k = record { values = b.values; labels = set b.labels k l }

-- The bank where a location lies, changed at its number.
abbrev pub on_location : State → Location → (Bank → ℕ → Bank) → State
on_location s (register k) f =
    record { fixed = s.fixed; control = s.control; registers = f s.registers k; memory = s.memory }
on_location s (word k) f =
    record { fixed = s.fixed; control = s.control; registers = s.registers; memory = f s.memory k }

-- The state after a write.
unfoldable pub written : State → Write → State
written s nothing = s
written s (value x v) = on_location s x (set_value v)
written s (label x l) = on_location s x (set_label_at l)

-- The timing label before restoring flows to register 15's label.
unfoldable pub cause_allowed : State → Bool
cause_allowed s = flows s.control.pair.timing (label_at s (register 15))

-- Closing an upcall, register 15 gets the cause if t before restoring flows to its label. A departure: the status is
-- this register.
unfoldable pub cause_write : State → ℕ → Write
cause_write s cause = cond (cause_allowed s) (value (register 15) cause) nothing

-- What a change writes.
abbrev pub change_write : Change → Write
change_write (write x) = x
change_write (goto k) = nothing
change_write (enter q) = nothing
change_write (open_upcall k q e) = nothing
change_write (open_gate g) = nothing
change_write close_gate = nothing
change_write stop = nothing

-- What a decision writes.
unfoldable pub write_of : State → Decision → Write
write_of s rest = nothing
write_of s spend = nothing
write_of s (stall why) = nothing
write_of s (close cause) = cause_write s cause
write_of s (carry ticks change) = change_write change

-- The control with another clock and pc.
abbrev pub moved : Control → ℕ → ℕ → Control
moved c clock pc =
    record { pc = pc; pair = c.pair; clock = clock; first = c.first; second = c.second; end = c.end; why = c.why }

-- The control with another clock, pc and pair.
abbrev pub entered : Control → ℕ → ℕ → Pair → Control
entered c clock pc q =
    record { pc = pc; pair = q; clock = clock; first = c.first; second = c.second; end = c.end; why = c.why }

-- The control with one more open call: in the first place, or where that is taken in the second.
abbrev pub opened : Control → Call → Control
opened c x =
    record { pc = c.pc; pair = c.pair; clock = c.clock; first = cond (is_empty c.first) x c.first; second = cond (is_empty c.first) Empty x; end = c.end; why = c.why }

-- The control at another clock, the newest call closed and its pc and pair restored.
unfoldable pub restored : Control → ℕ → Control
restored c clock =
    record { pc = return_of (newest c); pair = pair_of (newest c); clock = clock; first = cond (is_empty c.second) Empty c.first; second = Empty; end = c.end; why = c.why }

-- The control with another clock, ended.
abbrev pub ended : Control → ℕ → ℕ → ℕ → Control
ended c clock end why =
    record { pc = c.pc; pair = c.pair; clock = clock; first = c.first; second = c.second; end = end; why = why }

-- The control after a change that leaves this clock.
unfoldable pub changed : Control → ℕ → Change → Control
changed c clock (write x) = moved c clock (c.pc + 1)
changed c clock (goto k) = moved c clock k
changed c clock (enter q) = entered c clock (c.pc + 1) q
changed c clock (open_upcall k q e) = entered (opened c (Upcall k c.pair e)) clock (c.pc + 1) q
changed c clock (open_gate g) = entered (opened c (Gate (c.pc + 1) c.pair)) clock g.entry g.pair
changed c clock close_gate = restored c clock
changed c clock stop = ended c clock halted 0

-- The control after a decision.
unfoldable pub control_after : State → Decision → Control
control_after s rest = s.control
control_after s spend = ended s.control s.fixed.limit clock_spent 0
control_after s (stall why) = ended s.control s.control.clock stalled why
control_after s (close cause) = restored s.control (closing_tick s)
control_after s (carry ticks change) = changed s.control (s.control.clock + ticks) change

-- The state with another control.
abbrev pub with_control : State → Control → State
with_control s c = record { fixed = s.fixed; control = c; registers = s.registers; memory = s.memory }

-- A decision applied.
unfoldable pub apply : State → Decision → State
apply s d = with_control (written s (write_of s d)) (control_after s d)

-- One step.
unfoldable pub step : State → State
step s = apply s (decide s)

-- ---- the run

-- So many steps.
unfoldable pub steps : ℕ → State → State
steps zero s = s
steps (suc k) s = steps k (step s)

-- A run steps until the end isn't 0. Each step adds to the clock or ends the run, so limit - clock + 1 steps are
-- enough, and an ended record steps to itself.
unfoldable pub run : State → State
run s = steps (s.fixed.limit - s.control.clock + 1) s

-- ---- the run to a tick

-- The step finishes at or before tick k. One of an ended record finishes at its clock.
unfoldable pub finishes_by : ℕ → State → Bool
finishes_by k s = leb (finish s (decide s)) k

-- The step if it finishes by k, else nothing.
unfoldable pub step_by : ℕ → State → State
step_by k s = cond (finishes_by k s) (step s) s

-- So many of them.
unfoldable pub steps_by : ℕ → ℕ → State → State
steps_by k zero s = s
steps_by k (suc n) s = steps_by k n (step_by k s)

-- A run to tick k does every step that finishes at or before k, and none that finishes later. As many as a run can take
-- are enough.
unfoldable pub run_to : ℕ → State → State
run_to k s = steps_by k (s.fixed.limit - s.control.clock + 1) s
