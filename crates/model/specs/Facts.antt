-- What the definitions are held against: the starred facts of document 01, "Firings to check", and behind them facts of
-- divisions, of gates whose pair isn't valid, and of releases, as one table, each row a test that proofs/Facts.antt has
-- the checker compute; and document 01's own rule for the ticks of op 8, which proofs/Multiply.antt proves of every state.
-- Assumes nothing.
use Rattle.std.specs.Prelude.{ℕ, zero, suc, ◌+◌, ◌-◌, ◌*◌, ◌/◌, ◌%◌, ◌^◌, Bool, true, not, ◌&&◌, cond, List, [], ◌∷◌, eqb, replicate}
use Rattle.labels.specs.Label.{flows, join, meet, uncompromised, may_raise, may_relabel, lowest, trusted, secret}
use Rattle.causes.specs.Causes.{number_of}
use Rattle.causes.specs.Tests.{first_refusal}
use Rattle.model.specs.declared.Pair.{Pair}
use Rattle.model.specs.declared.CallGate.{CallGate}
use Rattle.model.specs.declared.Call.TheVariants.{Empty}
use Rattle.model.specs.declared.format.Line.{Line}
use Rattle.model.specs.declared.format.Line.TheVariants.{G, R}
use Rattle.model.specs.declared.judging.Last.{Last}
use Rattle.model.specs.Record.{State, register, value_at, label_at, machine_of, is_empty, is_gate, newest}
use Rattle.model.specs.Word.{multiply}
use Rattle.model.specs.WellFormed.{no_gate, well_formed}
use Rattle.model.specs.Ops.{significant_bits, arithmetic_ticks}
use Rattle.model.specs.Step.{entered, step}
use Rattle.model.specs.Load.{line_tests, behind_header, last_of}
use Rattle.model.specs.PairTest.{step_tested}

-- ---- a state to try an op in

-- A word with its op and what it names.
abbrev pub word_of : ℕ → ℕ → ℕ → ℕ → ℕ
word_of op a b n = op * 2 ^ 24 + a * 2 ^ 20 + b * 2 ^ 16 + n

-- The lowest label twice.
abbrev pub low_pair : Pair
low_pair = record { pc = lowest; timing = lowest }

-- A machine at clock 10 and pc 0, of size 8, with error pc 7 and limit 100, and with these values in its registers 1 to 4
-- and these two words as its program.
abbrev pub machine : ℕ → ℕ → ℕ → ℕ → ℕ → ℕ → State
machine r1 r2 r3 r4 first second =
    record {
      fixed = record { size = 8; limit = 100; errorpc = 7; count = 0; gates = replicate 8 no_gate };
      control = record { pc = 0; pair = low_pair; clock = 10; first = Empty; second = Empty; end = 0; why = 0 };
      registers = record { values = 0 ∷ r1 ∷ r2 ∷ r3 ∷ r4 ∷ replicate 11 0; labels = replicate 16 lowest };
      memory = record { values = first ∷ second ∷ replicate 6 0; labels = replicate 8 lowest };
    }

-- ---- upcalls

-- Register 1 holds the ticks of the upcall, registers 2 and 3 its pair, register 4 its return pc 3. The program is the
-- upcall and then the word given.
abbrev pub trial : ℕ → ℕ → State
trial ticks w = machine ticks 240 240 3 (word_of 18 1 2 (3 * 2 ^ 12 + 4 * 2 ^ 8)) w

-- So many steps at the most, until no call is open.
abbrev pub until_closed : ℕ → State → State
until_closed zero s = s
until_closed (suc k) s = let again = until_closed k (step s) in cond (is_empty (newest s.control)) s again

-- The state in which the upcall of so many ticks is back, its program being the word given.
abbrev pub back : ℕ → ℕ → State
back ticks w = until_closed 30 (step (trial ticks w))

-- It is back at that clock, at the return pc, with that cause in register 15.
abbrev pub back_at : ℕ → ℕ → ℕ → ℕ → Bool
back_at ticks w cause clock =
    let s = back ticks w in
    eqb s.control.clock clock && eqb s.control.pc 3 && eqb (value_at s (register 15)) cause
    && is_empty (newest s.control)

-- Op 19: the end of an upcall.
abbrev pub end : ℕ
end = word_of 19 0 0 0

-- Op 11 that goes to itself for ever.
abbrev pub spin : ℕ
spin = word_of 11 0 0 1

-- Op 22: a halt.
abbrev pub stop : ℕ
stop = word_of 22 0 0 0

-- ---- multiplies

-- The least whole number that is not below n / d.
abbrev pub ceiling : ℕ → ℕ → ℕ
ceiling n d = cond (eqb (n % d) 0) (n / d) (n / d + 1)

-- Document 01's own rule: op 8 takes 2 + ceiling(k / 4), k being Rc's significant bits, if Lb and Lc flow to t, else 10.
-- The machine has one formula in its place and doesn't use this. That both give the same ticks is `multiply_documented`.
abbrev pub document_ticks : Bool → ℕ → ℕ
document_ticks visible v = cond visible (2 + ceiling (significant_bits v) 4) 10

-- ---- divisions

-- The op of that number, done at clock 10 with x in register 1 and y in register 2, leaves v in register 3 at clock 44.
abbrev pub divides : ℕ → ℕ → ℕ → ℕ → Bool
divides op x y v =
    let s = step (machine x y 0 0 (word_of op 3 1 (2 * 2 ^ 12)) 0) in
    eqb (value_at s (register 3)) v && eqb s.control.clock 44 && eqb s.control.pc 1

-- ---- gates

-- A gate at pc 5 whose pair is valid: 240 flows to 0.
abbrev pub valid_gate : CallGate
valid_gate = record { entry = 5; pair = record { pc = lowest; timing = 0 } }

-- One with that pair turned round, which isn't valid.
abbrev pub invalid_gate : CallGate
invalid_gate = record { entry = 5; pair = record { pc = 0; timing = lowest } }

-- A machine at op 20 for gate 0, with so many of these two gates. Its pc label is 0, to which the labels of both flow.
abbrev pub at_gate : ℕ → CallGate → CallGate → State
at_gate count gate₀ gate₁ =
    let s = machine 0 0 0 0 (word_of 20 0 0 0) 0 in
    record {
      fixed = record { size = 8; limit = 100; errorpc = 7; count = count; gates = gate₀ ∷ gate₁ ∷ replicate 6 no_gate };
      control = entered s.control 10 0 (record { pc = 0; timing = 0 });
      registers = s.registers;
      memory = s.memory;
    }

-- The record of a state is well-formed.
abbrev pub is_fit : State → Bool
is_fit s = well_formed (machine_of s)

-- A step of such a machine led here that took the call.
abbrev pub taken : State → Bool
taken s = is_gate (newest s.control) && eqb s.control.pc 5 && eqb s.control.clock 14

-- One that passed it by, in the same ticks.
abbrev pub passed_by : State → Bool
passed_by s = is_empty (newest s.control) && eqb s.control.pc 1 && eqb s.control.clock 14

-- The number of a line's refusal in a machine of size 8 with so many gates, or 0.
abbrev pub refusal_of : ℕ → Last → Line → ℕ
refusal_of count last l = number_of (first_refusal (line_tests 8 count last l))

-- ---- releases

-- A machine at op 16, which relabels register 1 from l to the label m that stands in register 2 under the label k. Its pair
-- is p twice.
abbrev pub at_relabel : ℕ → ℕ → ℕ → ℕ → State
at_relabel p l k m =
    let s = machine 0 m 0 0 (word_of 16 1 2 0) 0 in
    record {
      fixed = s.fixed;
      control = entered s.control 10 0 (record { pc = p; timing = p });
      registers = record { values = s.registers.values; labels = lowest ∷ l ∷ k ∷ replicate 13 lowest };
      memory = s.memory;
    }

-- Its step sets the label.
abbrev pub relabels : ℕ → ℕ → ℕ → ℕ → Bool
relabels p l k m = eqb (label_at (step (at_relabel p l k m)) (register 1)) m

-- ---- the table

-- The starred facts, and behind them those of divisions, of gates and of releases.
abbrev pub facts : List Bool
facts =
    -- 255 to 15 flows; 255 to 0 doesn't
    flows 255 15
    ∷ not (flows 255 0)
    -- the join of 255 and 0 is 15, the meet 240
    ∷ eqb (join 255 0) 15
    ∷ eqb (meet 255 0) 240
    -- 18 isn't sound, 51 is
    ∷ not (uncompromised 18)
    ∷ uncompromised 51
    -- raise 255 to 15 under 255 fails; 240 to 15 under 240 passes
    ∷ not (may_raise 255 255 15)
    ∷ may_raise 240 240 15
    -- relabel 255 to 240 under 240 passes; 15 to 0 under 0 fails
    ∷ may_relabel 240 255 240
    ∷ not (may_relabel 0 15 0)
    -- op 8, both labels flowing to t, with Rc 0, 1, 16, 2^32 - 1: 2, 3, 4, 10
    ∷ eqb (arithmetic_ticks multiply true 0) 2
    ∷ eqb (arithmetic_ticks multiply true 1) 3
    ∷ eqb (arithmetic_ticks multiply true 16) 4
    ∷ eqb (arithmetic_ticks multiply true (2 ^ 32 - 1)) 10
    -- upcall at clock 10, Ra 20: back at 33, for each cause
    ∷ back_at 20 end 1 33
    ∷ back_at 20 spin 2 33
    ∷ back_at 20 stop 3 33
    -- Ra 0: back at 13, for each cause
    ∷ back_at 0 end 1 13
    ∷ back_at 0 spin 2 13
    ∷ back_at 0 stop 3 13
    -- unused bits are ignored: all set in op 19, in op 22
    ∷ back_at 20 (end + (2 ^ 24 - 1)) 1 33
    ∷ back_at 20 (stop + (2 ^ 24 - 1)) 3 33
    -- 17 by 5 is 3, and 2 are left; 17 by 0 is 2^32 - 1, and 17 are left
    ∷ divides 23 17 5 3
    ∷ divides 24 17 5 2
    ∷ divides 23 17 0 (2 ^ 32 - 1)
    ∷ divides 24 17 0 17
    -- a gate whose pair isn't valid: the record isn't fit; the step takes the call, and with the test it passed it by
    ∷ not (is_fit (at_gate 1 invalid_gate no_gate))
    ∷ taken (step (at_gate 1 invalid_gate no_gate))
    ∷ passed_by (step_tested (at_gate 1 invalid_gate no_gate))
    -- a gate whose pair is valid: the record is fit, and both take the call
    ∷ is_fit (at_gate 1 valid_gate no_gate)
    ∷ taken (step (at_gate 1 valid_gate no_gate))
    ∷ taken (step_tested (at_gate 1 valid_gate no_gate))
    -- of two gates the second counts too; what stands in the slots behind the last gate doesn't
    ∷ not (is_fit (at_gate 2 valid_gate invalid_gate))
    ∷ is_fit (at_gate 1 valid_gate invalid_gate)
    ∷ is_fit (at_gate 0 invalid_gate invalid_gate)
    -- a register that holds 2^33, which no type of the code lets it: the record is fit, and after an upcall of so many
    -- ticks it isn't
    ∷ is_fit (trial (2 ^ 33) end)
    ∷ not (is_fit (step (trial (2 ^ 33) end)))
    -- a G line with the pair 1, 1 is 13; behind an R line it is 4, with the label 256 or as the ninth it is 3
    ∷ eqb (refusal_of 7 behind_header (G 0 240 240)) 0
    ∷ eqb (refusal_of 7 behind_header (G 0 1 1)) 13
    ∷ eqb (refusal_of 7 (last_of (R 1 240 0)) (G 0 1 1)) 4
    ∷ eqb (refusal_of 7 behind_header (G 0 1 256)) 3
    ∷ eqb (refusal_of 8 behind_header (G 0 1 1)) 3
    -- to one trusted with {1} labels trusted by {1, 2} and by {2} are trusted, by {1} and by none aren't; with all, none is
    ∷ trusted 1 48
    ∷ trusted 1 32
    ∷ not (trusted 1 16)
    ∷ not (trusted 1 0)
    ∷ not (trusted 15 240)
    -- to one shut out from {1, 2} labels with the secrets of {1, 2} and of more are secret, of {1} aren't; from none, all are
    ∷ secret 3 243
    ∷ secret 3 255
    ∷ not (secret 3 241)
    ∷ secret 0 240
    -- op 16 from 242 to 240 under 240; not from 15, which isn't sound, to 0 under 0; nor where the register that holds the new
    -- label has the label 16, which doesn't flow to 240
    ∷ relabels 240 242 240 240
    ∷ not (relabels 0 15 240 0)
    ∷ not (relabels 240 242 16 240)
    ∷ []

-- Every test of a list passes.
abbrev pub every : List Bool → Bool
every [] = true
every (b ∷ bs) = b && every bs
