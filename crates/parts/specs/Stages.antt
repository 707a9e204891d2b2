-- What passes between the two stages of a step, and what of the model it is: changes, decisions, and reasons to stop.
-- Assumes nothing.
use Rattle.std.specs.Prelude.{ℕ, ◌+◌, ◌^◌, ◌≤◌, ◌<◌, ◌≡◌, Bool, true, false, cond}
use Rattle.model.specs.Numbers.{register_count, outside_memory, unreadable, unknown_op, by_spent_time}
use Rattle.model.specs.Record.{State, register, is_empty, is_upcall, in_upcall}
use Rattle.model.specs.Word.{Op, immediate, arithmetic, load, store, branch, jump, read_clock, set_label, set_pair, upcall, end_upcall, gate_call, gate_return, halt, op_field, decode}
use Rattle.model.specs.Ops as ops
use Rattle.model.specs.Step as model
use Rattle.parts.specs.declared.live.Live.{Live}
use Rattle.parts.specs.Live.{call_of}
use Rattle.parts.specs.declared.stages.Reason.{Reason}
use Rattle.parts.specs.declared.stages.Reason.TheVariants.{Out, Late, Outside, Unreadable, Failed, Rest}
use Rattle.parts.specs.declared.stages.Change.{Change}
use Rattle.parts.specs.declared.stages.Change.TheVariants.{Pass, SetLabel, Goto, Enter, OpenUpcall, OpenGate, CloseGate, Stop}
use Rattle.parts.specs.declared.stages.Decision.{Decision}
use Rattle.parts.specs.declared.stages.Decision.TheVariants.{Spend, Stall, Close, Carry}

-- ---- the model's changes and decisions

-- The model's change that a change is.
abbrev pub change_of : Change → ops.Change
change_of Pass = ops.write ops.nothing
change_of (SetLabel a l) = ops.write (ops.label (register a) l)
change_of (Goto k) = ops.goto k
change_of (Enter q) = ops.enter q
change_of (OpenUpcall k q e) = ops.open_upcall k q e
change_of (OpenGate k q) = ops.open_gate (record { entry = k; pair = q })
change_of CloseGate = ops.close_gate
change_of Stop = ops.stop

-- The model's decision that a decision is.
abbrev pub decision_of : Decision → model.Decision
decision_of Spend = model.spend
decision_of (Stall why) = model.stall why
decision_of (Close cause) = model.close cause
decision_of (Carry ticks change) = model.carry ticks (change_of change)

-- ---- common ops, which the hot loop does

-- An op that only writes a value or goes on elsewhere.
abbrev pub is_common_op : Op → Bool
is_common_op immediate = true
is_common_op (arithmetic f) = true
is_common_op load = true
is_common_op store = true
is_common_op (branch f) = true
is_common_op jump = true
is_common_op read_clock = true
is_common_op (set_label f) = false
is_common_op set_pair = false
is_common_op upcall = false
is_common_op end_upcall = false
is_common_op gate_call = false
is_common_op gate_return = false
is_common_op halt = false

-- The word that was fetched has such an op.
abbrev pub fetches_common : model.Fetched → Bool
fetches_common (model.failed why) = false
fetches_common (model.fetched w op) = is_common_op op

-- ---- the decision for a reason to stop

-- What an op does that would finish past the deadline, but for the limit.
abbrev pub late_of : State → model.Decision
late_of s = cond (in_upcall s.control) (model.close by_spent_time) model.spend

-- What is planned at a word where the hot loop stopped. One with a common op it has done itself: here that is no op.
abbrev pub plan_at : ℕ → State → model.Decision
plan_at w s =
    cond (fetches_common (model.known w (decode (op_field w)))) (model.fault s unknown_op) (model.plan s (model.known w (decode (op_field w))))

-- What is planned for a reason to stop, but for the limit. A branch or jump that failed closes the upcall, as a failed
-- fetch does.
abbrev pub plan_for : Reason → State → model.Decision
plan_for Out s = model.spend
plan_for Late s = late_of s
plan_for Outside s = model.fault s outside_memory
plan_for Unreadable s = model.fault s unreadable
plan_for Failed s = model.fault s unknown_op
plan_for (Rest w) s = plan_at w s

-- Where it stopped at a word, there is a next pc.
abbrev pub HasNext : Reason → ℕ → Type 0
HasNext Out pc = Unit
HasNext Late pc = Unit
HasNext Outside pc = Unit
HasNext Unreadable pc = Unit
HasNext Failed pc = Unit
HasNext (Rest w) pc = pc + 1 < 2 ^ 32

-- ---- what is known of a decision besides

-- What a change that finishes at this tick asks of the control before it, and of a register's number.
abbrev pub Fits : Change → Live → ℕ → Type 0
Fits Pass l finish = l.pc + 1 < 2 ^ 32
Fits (SetLabel a x) l finish = (a < register_count) × (l.pc + 1 < 2 ^ 32)
Fits (Goto k) l finish = Unit
Fits (Enter q) l finish = l.pc + 1 < 2 ^ 32
Fits (OpenUpcall k q e) l finish = (l.pc + 1 < 2 ^ 32) × (is_upcall (call_of l.newest) ≡ false) × (finish ≤ e)
Fits (OpenGate k q) l finish = (l.pc + 1 < 2 ^ 32) × (is_empty (call_of l.newest) ≡ true)
Fits CloseGate l finish = Unit
Fits Stop l finish = Unit

-- It can be applied under this limit: what is closed is an upcall, and what is carried out takes a tick or more. Each
-- finishes by the limit, and what is carried out in an upcall by its end tick.
abbrev pub Applies : Decision → Live → ℕ → Type 0
Applies Spend l limit = Unit
Applies (Stall why) l limit = Unit
Applies (Close cause) l limit = (is_upcall (call_of l.newest) ≡ true) × (l.newest.end < limit)
Applies (Carry ticks change) l limit =
    (1 ≤ ticks) × (l.clock + ticks ≤ limit) × (is_upcall (call_of l.newest) ≡ true → l.clock + ticks ≤ l.newest.end)
    × Fits change l (l.clock + ticks)
