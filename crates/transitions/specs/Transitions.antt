-- The second stage of a step as the code promises it: the control and the registers after a decision.
-- Assumes nothing.
use Rattle.std.specs.Prelude.{ℕ, ◌+◌, ◌%◌, ◌^◌, cond, List, nat_lt, slice_index, slice_set}
use Rattle.labels.specs.Label.{flows}
use Rattle.model.specs.Numbers.{register_count, halted, clock_spent, stalled}
use Rattle.model.specs.declared.Pair.{Pair}
use Rattle.model.specs.declared.Call.TheVariants.{Gate, Upcall}
use Rattle.model.specs.Record.{Bank}
use Rattle.parts.specs.declared.live.Frame.{Frame}
use Rattle.parts.specs.declared.live.Live.{Live}
use Rattle.parts.specs.declared.stages.Change.{Change}
use Rattle.parts.specs.declared.stages.Change.TheVariants.{Pass, SetLabel, Goto, Enter, OpenUpcall, OpenGate, CloseGate, Stop}
use Rattle.parts.specs.declared.stages.Decision.{Decision}
use Rattle.parts.specs.declared.stages.Decision.TheVariants.{Spend, Stall, Close, Carry}
use Rattle.parts.specs.Live.{no_frame, frame_of}

-- ---- the control

-- At another clock and pc.
abbrev pub moved : Live → ℕ → ℕ → Live
moved l clock pc =
    record { pc = pc; pair = l.pair; clock = clock; newest = l.newest; older = l.older; end = l.end; why = l.why }

-- At another clock, pc and pair.
abbrev pub entered : Live → ℕ → ℕ → Pair → Live
entered l clock pc q =
    record { pc = pc; pair = q; clock = clock; newest = l.newest; older = l.older; end = l.end; why = l.why }

-- With one more open call, on top of the newest.
abbrev pub opened : Live → Frame → Live
opened l call =
    record { pc = l.pc; pair = l.pair; clock = l.clock; newest = call; older = l.newest; end = l.end; why = l.why }

-- At another clock, the newest call closed and its pc and pair restored.
abbrev pub restored : Live → ℕ → Live
restored l clock =
    record { pc = l.newest.back; pair = l.newest.pair; clock = clock; newest = l.older; older = no_frame; end = l.end; why = l.why }

-- At another clock, ended.
abbrev pub ended : Live → ℕ → ℕ → ℕ → Live
ended l clock end why =
    record { pc = l.pc; pair = l.pair; clock = clock; newest = l.newest; older = l.older; end = end; why = why }

-- The next pc. It has 32 bits, so past the last comes 0.
abbrev pub next : Live → ℕ
next l = (l.pc + 1) % 2 ^ 32

-- After a change that leaves this clock. A call that opens keeps the pair, and a gate call goes on at the next pc.
unfoldable pub changed : Live → ℕ → Change → Live
changed l clock Pass = moved l clock (next l)
changed l clock (SetLabel a x) = moved l clock (next l)
changed l clock (Goto k) = moved l clock k
changed l clock (Enter q) = entered l clock (next l) q
changed l clock (OpenUpcall k q e) = entered (opened l (frame_of (Upcall k l.pair e))) clock (next l) q
changed l clock (OpenGate k q) = entered (opened l (frame_of (Gate (next l) l.pair))) clock k q
changed l clock CloseGate = restored l clock
changed l clock Stop = ended l clock halted 0

-- When this call closes: at the tick past its end tick, or at the limit where the end tick isn't below it.
abbrev pub closing_tick : Frame → ℕ → ℕ
closing_tick call limit = cond (nat_lt call.end limit) (call.end + 1) limit

-- After a decision. The clock has 32 bits as well.
unfoldable pub control_after : Live → ℕ → Decision → Live
control_after l limit Spend = ended l limit clock_spent 0
control_after l limit (Stall why) = ended l l.clock stalled why
control_after l limit (Close cause) = restored l (closing_tick l.newest limit)
control_after l limit (Carry ticks change) = changed l ((l.clock + ticks) % 2 ^ 32) change

-- ---- the registers

-- The labels after a change: at most one is set, at its number's place among the registers.
abbrev pub labelled : Change → List ℕ → List ℕ
labelled Pass labels = labels
labelled (SetLabel a x) labels = slice_set labels (a % register_count) x
labelled (Goto k) labels = labels
labelled (Enter q) labels = labels
labelled (OpenUpcall k q e) labels = labels
labelled (OpenGate k q) labels = labels
labelled CloseGate labels = labels
labelled Stop labels = labels

-- The values after an upcall closed: register 15 gets the cause if the timing label flows to its label.
abbrev pub caused : ℕ → Pair → List ℕ → List ℕ → List ℕ
caused cause q values labels = cond (flows q.timing (slice_index labels 15)) (slice_set values 15 cause) values

-- The registers after a decision under this control.
unfoldable pub written_back : Decision → Live → Bank → Bank
written_back Spend l b = b
written_back (Stall why) l b = b
written_back (Close cause) l b = record { values = caused cause l.pair b.values b.labels; labels = b.labels }
written_back (Carry ticks change) l b = record { values = b.values; labels = labelled change b.labels }
