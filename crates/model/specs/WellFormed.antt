-- When a record is well-formed (the paper's fit): document 01, "The record", its last paragraph.
-- Assumes nothing.
use Rattle.std.specs.Prelude.{ℕ, zero, suc, ◌^◌, Bool, true, false, ◌&&◌, cond, List, leb, ltb, eqb, length, get_or}
use Rattle.labels.specs.Label.{flows, valid_pair, lowest}
use Rattle.model.specs.Numbers.{most_words, most_ticks, most_gates, zero_register, stalled, unknown_op}
use Rattle.model.specs.declared.Pair.{Pair}
use Rattle.model.specs.declared.CallGate.{CallGate}
use Rattle.model.specs.declared.Fixed.{Fixed}
use Rattle.model.specs.declared.Control.{Control}
use Rattle.model.specs.declared.Call.{Call}
use Rattle.model.specs.declared.Call.TheVariants.{Empty, Gate, Upcall}
use Rattle.model.specs.Record.{Bank, Machine}

-- A pair is valid.
abbrev pub is_valid : Pair → Bool
is_valid q = valid_pair q.pc q.timing

-- The size is 1 to 2,048 words.
abbrev pub size_in_range : ℕ → Bool
size_in_range size = leb 1 size && leb size most_words

-- The limit is 1 to 16,777,216 ticks.
abbrev pub limit_in_range : ℕ → Bool
limit_in_range limit = leb 1 limit && leb limit most_ticks

-- The ranges of what no step changes: size, limit, and up to eight gates.
unfoldable pub fixed_in_range : Fixed → Bool
fixed_in_range f = size_in_range f.size && limit_in_range f.limit && leb f.count most_gates

-- End is 0 to 3; why is 1 to 3 at end 3, else 0.
unfoldable pub end_in_range : Control → Bool
end_in_range c = leb c.end stalled && cond (eqb c.end stalled) (leb 1 c.why && leb c.why unknown_op) (eqb c.why 0)

-- What is asked of an upcall's kept pair q and end tick e: the pair is valid, its labels flow to the current ones, and
-- the end tick is at least the clock and below 2^33.
unfoldable pub upcall_well_formed : Control → Pair → ℕ → Bool
upcall_well_formed c q e =
    is_valid q && flows q.pc c.pair.pc && flows q.timing c.pair.timing && leb c.clock e && ltb e (2 ^ 33)

-- The two places hold no call, a gate call, an upcall, or an upcall over a gate call; a gate call's kept pair is valid.
abbrev pub calls_well_formed : Control → Call → Call → Bool
calls_well_formed c Empty Empty = true
calls_well_formed c Empty (Gate k q) = false
calls_well_formed c Empty (Upcall k q e) = false
calls_well_formed c (Gate k q) Empty = is_valid q
calls_well_formed c (Gate k q) (Gate k' q') = false
calls_well_formed c (Gate k q) (Upcall k' q' e') = is_valid q && upcall_well_formed c q' e'
calls_well_formed c (Upcall k q e) Empty = upcall_well_formed c q e
calls_well_formed c (Upcall k q e) (Gate k' q') = false
calls_well_formed c (Upcall k q e) (Upcall k' q' e') = false

-- A register or word is blank: value 0 and the lowest label.
abbrev pub is_blank : ℕ → ℕ → Bool
is_blank label value = eqb value 0 && eqb label lowest

-- Register 0 always reads 0 with the lowest label.
unfoldable pub zero_reads : Bank → Bool
zero_reads b = is_blank (get_or b.labels zero_register 0) (get_or b.values zero_register 0)

-- No gate: what stands for the gate of a number that does not exist.
abbrev pub no_gate : CallGate
no_gate = record { entry = 0; pair = record { pc = 0; timing = 0 } }

-- The pairs of the first n gates are valid. What stands in the slots behind them is not asked about.
unfoldable pub gates_valid : List CallGate → ℕ → Bool
gates_valid gates zero = true
gates_valid gates (suc n) = gates_valid gates n && is_valid (get_or gates n no_gate).pair

-- The record is fit: the ranges hold, the clock is at most the limit, the current pair and the calls are fit, register 0
-- reads 0, and the pairs of its gates are valid.
unfoldable pub well_formed : Machine → Bool
well_formed r =
    fixed_in_range r.fixed && end_in_range r.control && leb r.control.clock r.fixed.limit && is_valid r.control.pair
    && calls_well_formed r.control r.control.first r.control.second && zero_reads r.registers
    && gates_valid r.fixed.gates r.fixed.count

-- The lent words and the lent labels are each at least as long as the size.
unfoldable pub lent_whole : ℕ → Bank → Bool
lent_whole size m = leb size (length m.values) && leb size (length m.labels)
