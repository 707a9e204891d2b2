-- The op table: document 01, "One step", the table and the paragraphs below it. A row has an op's check, its effect and
-- its ticks, as the state has them that the op starts in. An effect is data: nothing here changes a state.
-- Assumes nothing.
use Rattle.std.specs.Prelude.{ℕ, ◌+◌, ◌-◌, ◌/◌, ◌%◌, ◌^◌, Bool, true, false, not, ◌&&◌, cond, ltb, eqb, get_or}
use Rattle.std.specs.Int.Count.{count_leading_zeros}
use Rattle.labels.specs.Label.{flows, join, meet, may_raise, may_relabel, label_count}
use Rattle.model.specs.Numbers.{zero_register}
use Rattle.model.specs.declared.Pair.{Pair}
use Rattle.model.specs.declared.CallGate.{CallGate}
use Rattle.model.specs.Record.{State, Location, register, word, value_at, label_at, is_empty, is_gate, pair_of, newest, in_upcall}
use Rattle.model.specs.WellFormed.{is_valid, no_gate}
use Rattle.model.specs.Word.{Arithmetic, add, subtract, and, or, xor, less, multiply, divide, remainder, Comparison, equal, below, Rule, raise, relabel, Op, immediate, arithmetic, load, store, branch, jump, read_clock, set_label, set_pair, upcall, end_upcall, gate_call, gate_return, halt, a_field, b_field, c_field, d_field, n_field, compute}

-- ---- effects

-- What is written to a location: nothing, a value, or a label.
pub data Write : Type 0 where
  nothing : Write
  value : Location → ℕ → Write
  label : Location → ℕ → Write

-- The changes that ops carry out.
pub data Change : Type 0 where
  -- write, and go on at the next word
  write : Write → Change
  -- go on at this pc
  goto : ℕ → Change
  -- take this pair, and go on at the next word
  enter : Pair → Change
  -- open an upcall that keeps this return pc and end tick, take this pair, and go on at the next word
  open_upcall : ℕ → Pair → ℕ → Change
  -- open a gate call, and take the gate's pc and pair
  open_gate : CallGate → Change
  -- close the gate call, and restore what it keeps
  close_gate : Change
  -- end 1
  stop : Change

-- The effect of an op that passes its check: it carries out a change, or it ends the upcall with cause 1.
pub data Effect : Type 0 where
  does : Change → Effect
  ends : Effect

-- A row of the table. In an upcall a failed check of some ops closes the upcall with cause 3; `strict` says of which.
pub record Row : Type 0 where
  pub check : Bool
  pub effect : Effect
  pub ticks : ℕ
  pub strict : Bool

-- A row whose failed check only adds 1 to the pc, in an upcall too. A departure from the source, which stalls there:
-- for a destination check that shows a label raised in an earlier hidden call.
abbrev pub row : Bool → Effect → ℕ → Row
row check effect ticks = record { check = check; effect = effect; ticks = ticks; strict = false }

-- A row whose failed check closes an upcall: ops 11, 12, 13 and 22. A departure: only a failed fetch, branch or jump, or
-- a halt, closes the call.
abbrev pub strict_row : Bool → Effect → ℕ → Row
strict_row check effect ticks = record { check = check; effect = effect; ticks = ticks; strict = true }

-- ---- what the rows say

-- A register can be written and relabelled: any but register 0. An op that would write or relabel that one only takes its
-- ticks and adds 1 to the pc, as after a failed check.
unfoldable pub writable : ℕ → Bool
writable k = ltb zero_register k

-- What is read from a register as a label must be one.
unfoldable pub is_label : ℕ → Bool
is_label v = ltb v label_count

-- The significant bits of a 32-bit value.
unfoldable pub significant_bits : ℕ → ℕ
significant_bits v = 32 - count_leading_zeros 32 v

-- The count that times op 8: Rc's significant bits if Lb and Lc flow to t, else 32.
unfoldable pub multiply_count : Bool → ℕ → ℕ
multiply_count visible v = cond visible (significant_bits v) 32

-- Op 8 takes 2 + ceiling(count / 4). Document 01 has a case of its own for hidden factors, with the same ticks.
unfoldable pub multiply_ticks : ℕ → ℕ
multiply_ticks count = 2 + (count + 3) / 4

-- The ticks of the arithmetic ops. A division takes as long whoever may see its operands.
abbrev pub arithmetic_ticks : Arithmetic → Bool → ℕ → ℕ
arithmetic_ticks add visible v = 1
arithmetic_ticks subtract visible v = 1
arithmetic_ticks and visible v = 1
arithmetic_ticks or visible v = 1
arithmetic_ticks xor visible v = 1
arithmetic_ticks less visible v = 1
arithmetic_ticks multiply visible v = multiply_ticks (multiply_count visible v)
arithmetic_ticks divide visible v = 34
arithmetic_ticks remainder visible v = 34

-- Ops 11 and 12: Ra = Rb, Ra < Rb unsigned.
abbrev pub holds : Comparison → ℕ → ℕ → Bool
holds equal x y = eqb x y
holds below x y = ltb x y

-- Ops 15 and 16: the rule by which l becomes m under p.
abbrev pub allows : Rule → ℕ → ℕ → ℕ → Bool
allows raise p l m = may_raise p l m
allows relabel p l m = may_relabel p l m

-- ---- the table, for the word w that is carried out in the state s
module _ (s : State) (w : ℕ) where
  -- The current pc label.
  abbrev pub p : ℕ
  p = s.control.pair.pc

  -- The current timing label.
  abbrev pub t : ℕ
  t = s.control.pair.timing

  -- Ra, Rb, Rc, Rd: the values of the registers that the word names.
  abbrev pub Ra : ℕ
  Ra = value_at s (register (a_field w))

  abbrev pub Rb : ℕ
  Rb = value_at s (register (b_field w))

  abbrev pub Rc : ℕ
  Rc = value_at s (register (c_field w))

  abbrev pub Rd : ℕ
  Rd = value_at s (register (d_field w))

  -- La, Lb, Lc, Ld: their labels.
  abbrev pub La : ℕ
  La = label_at s (register (a_field w))

  abbrev pub Lb : ℕ
  Lb = label_at s (register (b_field w))

  abbrev pub Lc : ℕ
  Lc = label_at s (register (c_field w))

  abbrev pub Ld : ℕ
  Ld = label_at s (register (d_field w))

  -- The label of word Rb.
  abbrev pub Lw : ℕ
  Lw = label_at s (word Rb)

  -- Lb and Lc both flow to t: the operands may show in the time.
  abbrev pub visible : Bool
  visible = flows Lb t && flows Lc t

  -- Word Rb is not outside memory.
  abbrev pub in_memory : Bool
  in_memory = ltb Rb s.fixed.size

  -- The next word's pc.
  abbrev pub next : ℕ
  next = s.control.pc + 1

  -- The pair that ops 17 and 18 read from the registers b and c.
  abbrev pub new_pair : Pair
  new_pair = record { pc = Rb; timing = Rc }

  -- What stands in the registers b and c are labels, they form a valid pair, and Lb and Lc flow to p: ops 17 and 18.
  unfoldable pub new_pair_allowed : Bool
  new_pair_allowed = is_label Rb && is_label Rc && is_valid new_pair && flows Lb p && flows Lc p

  -- Upcall: the newest call is not an upcall; the join of p and t flows to the new p (which, the new pair being valid,
  -- flows to the new t); La, Lb, Lc and Ld flow to p.
  unfoldable pub may_upcall : Bool
  may_upcall = not (in_upcall s.control) && new_pair_allowed && flows (join p t) Rb && flows La p && flows Ld p

  -- The gate of number Rb.
  abbrev pub gate : CallGate
  gate = get_or s.fixed.gates Rb no_gate

  -- Gate call: no open call; the gate number exists; both labels of the gate's pair flow to p; Lb flows to p. That the
  -- pair is valid is not tested: in a fit record each gate's is.
  unfoldable pub may_call_gate : Bool
  may_call_gate =
      is_empty (newest s.control) && ltb Rb s.fixed.count && flows gate.pair.pc p
      && flows gate.pair.timing p && flows Lb p

  -- The pair that the newest call keeps.
  abbrev pub kept : Pair
  kept = pair_of (newest s.control)

  -- Gate return: the newest call is a gate call; the join of p and t flows to the meet of the kept pair.
  unfoldable pub may_return : Bool
  may_return = is_gate (newest s.control) && flows (join p t) (meet kept.pc kept.timing)

  -- Ra is to become v.
  abbrev pub sets : ℕ → Effect
  sets v = does (write (value (register (a_field w)) v))

  -- The table: an op's check, effect and ticks. Two departures from the source: op 17 works at any depth, and the time of
  -- an upcall (op 18) starts after its own ticks.
  unfoldable pub table : Op → Row
  table immediate = row (flows p La && writable (a_field w)) (sets (n_field w)) 1
  table (arithmetic f) =
      row (flows (join (join p Lb) Lc) La && writable (a_field w)) (sets (compute f Rb Rc)) (arithmetic_ticks f visible Rc)
  table load =
      row (in_memory && flows (join (join p Lb) Lw) La && writable (a_field w)) (sets (value_at s (word Rb))) 3
  table store = row (in_memory && flows (join (join p Lb) La) Lw) (does (write (value (word Rb) Ra))) 3
  table (branch f) = strict_row (flows (join La Lb) p) (does (goto (cond (holds f Ra Rb) (n_field w) next))) 1
  table jump = strict_row (flows Lb p) (does (goto Rb)) 1
  table read_clock = row (flows (join p t) La && writable (a_field w)) (sets (s.control.clock % 2 ^ 32)) 1
  table (set_label f) =
      row (is_label Rb && allows f p La Rb && flows Lb p && writable (a_field w))
      (does (write (label (register (a_field w)) Rb))) 2
  table set_pair = row (new_pair_allowed && flows p Rb && flows t Rc) (does (enter new_pair)) 2
  table upcall = row may_upcall (does (open_upcall Rd new_pair (s.control.clock + 2 + Ra))) 2
  table end_upcall = row (in_upcall s.control) ends 1
  table gate_call = row may_call_gate (does (open_gate gate)) 4
  table gate_return = row may_return (does close_gate) 4
  table halt = strict_row (not (in_upcall s.control)) (does stop) 1
