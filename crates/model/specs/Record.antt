-- The machine record and the memory lent to it: document 01, "The record". The parts that are Rust structs stand in
-- src/lib.rt; here are the whole record, the locations in it, and its two places for open calls.
-- Assumes nothing.
use Rattle.std.specs.Prelude.{ℕ, Bool, true, false, cond, List, get_or}
use Rattle.model.specs.declared.Pair.{Pair}
use Rattle.model.specs.declared.Fixed.{Fixed}
use Rattle.model.specs.declared.Control.{Control}
use Rattle.model.specs.declared.Call.{Call}
use Rattle.model.specs.declared.Call.TheVariants.{Empty, Gate, Upcall}

-- ---- registers, memory, and a location in either

-- Labelled numbers: the registers, or the lent words and label bytes.
pub record Bank : Type 0 where
  pub values : List ℕ
  pub labels : List ℕ

-- The machine record. It leaves out nothing of the machine's struct.
pub record Machine : Type 0 where
  pub fixed : Fixed
  pub control : Control
  pub registers : Bank

-- The record together with the memory that is lent to it.
pub record State : Type 0 where
  pub fixed : Fixed
  pub control : Control
  pub registers : Bank
  pub memory : Bank

-- The record of a state.
abbrev pub machine_of : State → Machine
machine_of s = record { fixed = s.fixed; control = s.control; registers = s.registers }

-- The state of a record with lent memory.
abbrev pub state_of : Machine → Bank → State
state_of r m = record { fixed = r.fixed; control = r.control; registers = r.registers; memory = m }

-- Lent words and label bytes.
abbrev pub lent : List ℕ → List ℕ → Bank
lent words labels = record { values = words; labels = labels }

-- The state of these parts: register values and labels, words and their labels.
abbrev pub state_from : Fixed → Control → List ℕ → List ℕ → List ℕ → List ℕ → State
state_from fixed control values labels words marks =
    record { fixed = fixed; control = control; registers = record { values = values; labels = labels }; memory = lent words marks }

-- A location: a register by its number, or a word by its address.
pub data Location : Type 0 where
  register : ℕ → Location
  word : ℕ → Location

-- Where in a state a location lies.
abbrev pub bank_of : State → Location → Bank
bank_of s (register k) = s.registers
bank_of s (word k) = s.memory

-- The location's number there.
abbrev pub index_of : Location → ℕ
index_of (register k) = k
index_of (word k) = k

-- The value at a location.
unfoldable pub value_at : State → Location → ℕ
value_at s x = get_or (bank_of s x).values (index_of x) 0

-- The label at a location.
unfoldable pub label_at : State → Location → ℕ
label_at s x = get_or (bank_of s x).labels (index_of x) 0

-- ---- the two places for open calls, the older first and a lone call in the first place

-- The place is empty.
abbrev pub is_empty : Call → Bool
is_empty Empty = true
is_empty (Gate k q) = false
is_empty (Upcall k q e) = false

-- The place holds a gate call.
abbrev pub is_gate : Call → Bool
is_gate Empty = false
is_gate (Gate k q) = true
is_gate (Upcall k q e) = false

-- The place holds an upcall.
abbrev pub is_upcall : Call → Bool
is_upcall Empty = false
is_upcall (Gate k q) = false
is_upcall (Upcall k q e) = true

-- The return place that a call keeps.
abbrev pub return_of : Call → ℕ
return_of Empty = 0
return_of (Gate k q) = k
return_of (Upcall k q e) = k

-- The pair that a call keeps.
abbrev pub pair_of : Call → Pair
pair_of Empty = record { pc = 0; timing = 0 }
pair_of (Gate k q) = q
pair_of (Upcall k q e) = q

-- The end tick that an upcall keeps.
abbrev pub end_tick_of : Call → ℕ
end_tick_of Empty = 0
end_tick_of (Gate k q) = 0
end_tick_of (Upcall k q e) = e

-- The newest call: the one in the second place, or where that is empty the one in the first.
unfoldable pub newest : Control → Call
newest c = cond (is_empty c.second) c.first c.second

-- In an upcall: the newest call is one.
unfoldable pub in_upcall : Control → Bool
in_upcall c = is_upcall (newest c)
