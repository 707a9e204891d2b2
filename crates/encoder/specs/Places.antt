-- Where each number of a machine record stands in a buffer of words of 64 bits, one number a word. The names are those of
-- include/jennydusk.h, which counts gates, calls, values and labels by k; here the first of each is named. src/places.rt
-- has the same names for the code.
-- Assumes nothing.
use Rattle.std.specs.Prelude.{ℕ, ◌+◌}

-- How many words a record takes.
abbrev pub span : ℕ
span = 76

-- ---- what no step changes

-- How many words of memory there are.
abbrev pub size : ℕ
size = 0

-- The limit of the clock, in ticks.
abbrev pub limit : ℕ
limit = 1

-- Where a failed fetch goes on.
abbrev pub error_pc : ℕ
error_pc = 2

-- How many gates there are.
abbrev pub gate_count : ℕ
gate_count = 3

-- The first of eight gates. Gate k, 0 to 7, is so many times `gate_span` behind it.
abbrev pub first_gate : ℕ
first_gate = 4

-- How many words a gate takes: the three that follow, counted from the gate's place.
abbrev pub gate_span : ℕ
gate_span = 3

-- Where a gate leads.
abbrev pub gate_entry : ℕ
gate_entry = 0

-- The pc label that it gives.
abbrev pub gate_pc_label : ℕ
gate_pc_label = 1

-- The timing label that it gives.
abbrev pub gate_timing_label : ℕ
gate_timing_label = 2

-- ---- an open call: its words and its kinds

-- How many words an open call takes: the five that follow, counted from the call's place. They are 0 where a call of its
-- kind keeps nothing.
abbrev pub call_span : ℕ
call_span = 5

-- One of the three kinds below.
abbrev pub call_kind : ℕ
call_kind = 0

-- Where it returns to.
abbrev pub call_return_pc : ℕ
call_return_pc = 1

-- The pc label that it returns to.
abbrev pub call_pc_label : ℕ
call_pc_label = 2

-- The timing label that it returns to.
abbrev pub call_timing_label : ℕ
call_timing_label = 3

-- The tick at which an upcall ends.
abbrev pub call_end_tick : ℕ
call_end_tick = 4

-- No call is open here.
abbrev pub empty : ℕ
empty = 0

-- A gate call.
abbrev pub gate_call : ℕ
gate_call = 1

-- An upcall.
abbrev pub upcall : ℕ
upcall = 2

-- ---- what a step changes

-- The pc.
abbrev pub pc : ℕ
pc = 28

-- The pc label.
abbrev pub pc_label : ℕ
pc_label = 29

-- The timing label.
abbrev pub timing_label : ℕ
timing_label = 30

-- The clock.
abbrev pub clock : ℕ
clock = 31

-- The older of the two calls.
abbrev pub first_call : ℕ
first_call = 32

-- The newer one.
abbrev pub second_call : ℕ
second_call = first_call + call_span

-- The end.
abbrev pub end : ℕ
end = 42

-- Why the run stalled.
abbrev pub why : ℕ
why = 43

-- The value of register 0. Those of the other fifteen follow.
abbrev pub first_value : ℕ
first_value = 44

-- The label of register 0. Those of the other fifteen follow.
abbrev pub first_label : ℕ
first_label = 60
