-- What the types of the code say of a record and of the memory that is lent to it, for the laws about them. An end tick has
-- the 64 bits of a word, so nothing is said of it.
-- Assumes nothing.
use Rattle.std.specs.Prelude.{ℕ, ◌^◌, ◌<◌, ◌≡◌, List, length, get_or}
use Rattle.labels.specs.Label.{label_count}
use Rattle.model.specs.declared.Pair.{Pair}
use Rattle.model.specs.declared.CallGate.{CallGate}
use Rattle.model.specs.declared.Fixed.{Fixed}
use Rattle.model.specs.declared.Control.{Control}
use Rattle.model.specs.declared.Call.{Call}
use Rattle.model.specs.Numbers.{most_gates, register_count, value_count}
use Rattle.model.specs.Record.{Bank, Machine, State, return_of, pair_of}
use Rattle.model.specs.WellFormed.{no_gate}

-- The first n numbers of the list are below k.
abbrev pub Below : ℕ → ℕ → List ℕ → Type 0
Below k n xs = (i : ℕ) → i < n → get_or xs i 0 < k

-- Labelled numbers, of which the first n count: 32 bits a value, and a label each.
pub record BankTyped (n : ℕ) (b : Bank) : Type 0 where
  pub values : Below value_count n b.values
  pub labels : Below label_count n b.labels

-- Sixteen of them, neither more nor fewer.
pub record RegistersTyped (b : Bank) : Type 0 where
  pub values : length b.values ≡ register_count
  pub labels : length b.labels ≡ register_count
  pub numbers : BankTyped register_count b

-- A pair's two labels.
pub record PairTyped (q : Pair) : Type 0 where
  pub pc : q.pc < label_count
  pub timing : q.timing < label_count

-- A gate's entry has 32 bits.
pub record GateTyped (g : CallGate) : Type 0 where
  pub entry : g.entry < value_count
  pub pair : PairTyped g.pair

-- What a call keeps has the bits of its fields.
pub record CallTyped (k : Call) : Type 0 where
  pub back : return_of k < value_count
  pub pair : PairTyped (pair_of k)

-- Four numbers of 32 bits, and a place for each gate.
pub record FixedTyped (f : Fixed) : Type 0 where
  pub size : f.size < value_count
  pub limit : f.limit < value_count
  pub errorpc : f.errorpc < value_count
  pub count : f.count < value_count
  pub places : length f.gates ≡ most_gates
  pub gates : (k : ℕ) → k < most_gates → GateTyped (get_or f.gates k no_gate)

-- A pc and a clock of 32 bits, an end and a why of 8.
pub record ControlTyped (c : Control) : Type 0 where
  pub pc : c.pc < value_count
  pub pair : PairTyped c.pair
  pub clock : c.clock < value_count
  pub first : CallTyped c.first
  pub second : CallTyped c.second
  pub end : c.end < 2 ^ 8
  pub why : c.why < 2 ^ 8

-- The record.
pub record MachineTyped (r : Machine) : Type 0 where
  pub fixed : FixedTyped r.fixed
  pub control : ControlTyped r.control
  pub registers : RegistersTyped r.registers

-- What the laws of a step rest on: the registers, and memory below the size.
pub record Typed (s : State) : Type 0 where
  pub registers : RegistersTyped s.registers
  pub memory : BankTyped s.fixed.size s.memory
