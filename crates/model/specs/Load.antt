-- Loading a text: document 01, "Text", its first paragraph, the refusals 1 to 6 of its table and their order; 9, of
-- register 0; and 13, of a gate's pair. A refusal leaves the lent words and labels; an accepted text sets all that lie
-- below the size.
-- Assumes nothing.
use Rattle.std.specs.Prelude.{ℕ, ◌+◌, Bool, false, not, ◌&&◌, ◌||◌, List, [], ◌∷◌, ◌++◌, leb, ltb, eqb, length, drop, set, replicate}
use Rattle.labels.specs.Label.{valid_pair, lowest}
use Rattle.causes.specs.declared.Cause.{Cause}
use Rattle.causes.specs.declared.Cause.TheVariants.{TextLength, MalformedLine, OutOfRange, OutOfOrder, InvalidPair, ShortMemory, ZeroRegister, GatePair}
use Rattle.causes.specs.Causes.{Outcome, Done, Refused}
use Rattle.causes.specs.Tests.{unless, Test, ◌or_else◌, first_refusal}
use Rattle.model.specs.Numbers.{most_gates, register_count, value_count, longest_text}
use Rattle.model.specs.declared.Call.TheVariants.{Empty}
use Rattle.model.specs.declared.format.Line.{Line}
use Rattle.model.specs.declared.format.Line.TheVariants.{M, G, R, W, Malformed}
use Rattle.model.specs.declared.judging.Kind.{Kind}
use Rattle.model.specs.declared.judging.Kind.TheVariants.{HeaderLine, GateLine, RegisterLine, WordLine}
use Rattle.model.specs.declared.judging.Last.{Last}
use Rattle.model.specs.declared.judging.Header.{Header}
use Rattle.model.specs.Record.{Bank, Machine}
use Rattle.model.specs.WellFormed.{is_valid, size_in_range, limit_in_range, no_gate, lent_whole}
use Rattle.model.specs.Ops.{writable, is_label}
use Rattle.model.specs.Text.{read_line, lines}

-- ---- the record that a text describes

-- Sixteen registers, or so many words, of value 0 and the lowest label.
abbrev pub blank : ℕ → Bank
blank n = record { values = replicate n 0; labels = replicate n lowest }

-- The record of an M line: clock, end and why at 0, no open call, no gate yet, all registers blank.
abbrev pub machine_of_header : Header → Machine
machine_of_header h =
    record {
      fixed = record { size = h.size; limit = h.limit; errorpc = h.errorpc; count = 0; gates = replicate most_gates no_gate };
      control =
          record
          { pc = h.pc; pair = record { pc = h.p; timing = h.t }; clock = 0; first = Empty; second = Empty; end = 0; why = 0 };
      registers = blank register_count;
    }

-- One more gate: gates are numbered from 0 in the order of their lines.
abbrev pub with_gate : Machine → ℕ → ℕ → ℕ → Machine
with_gate r pc p t =
    record {
      fixed =
          record {
            size = r.fixed.size;
            limit = r.fixed.limit;
            errorpc = r.fixed.errorpc;
            count = r.fixed.count + 1;
            gates = set r.fixed.gates r.fixed.count (record { entry = pc; pair = record { pc = p; timing = t } });
          };
      control = r.control;
      registers = r.registers;
    }

-- A location's label and value set.
abbrev pub with_entry : Bank → ℕ → ℕ → ℕ → Bank
with_entry b k l v = record { values = set b.values k v; labels = set b.labels k l }

-- One register set.
abbrev pub with_register : Machine → ℕ → ℕ → ℕ → Machine
with_register r k l v = record { fixed = r.fixed; control = r.control; registers = with_entry r.registers k l v }

-- The record with what a line says of it. The words are written later.
abbrev pub with_line : Machine → Line → Machine
with_line r (M a b c d e f) = r
with_line r (G pc p t) = with_gate r pc p t
with_line r (R k l v) = with_register r k l v
with_line r (W k l v) = r
with_line r Malformed = r

-- ---- the lines judged

-- The numbers of an M line are in their ranges.
unfoldable pub header_in_range : Header → Bool
header_in_range h =
    size_in_range h.size && ltb h.errorpc value_count && ltb h.pc value_count && is_label h.p && is_label h.t
    && limit_in_range h.limit

-- The numbers of a G line are in their ranges, and it isn't the ninth.
unfoldable pub gate_in_range : ℕ → ℕ → ℕ → ℕ → Bool
gate_in_range count pc p t = ltb pc value_count && is_label p && is_label t && ltb count most_gates

-- The numbers of an R or W line are in their ranges: its register number or address is below the bound.
unfoldable pub entry_in_range : ℕ → ℕ → ℕ → ℕ → Bool
entry_in_range bound k l v = ltb k bound && is_label l && ltb v value_count

-- The kinds in their order.
abbrev pub rank : Kind → ℕ
rank HeaderLine = 0
rank GateLine = 1
rank RegisterLine = 2
rank WordLine = 3

-- A line of this kind is in order behind the last one.
unfoldable pub in_order : Last → Kind → Bool
in_order last kind = leb (rank last.kind) (rank kind)

-- The number of a line of this kind is rising: above that of the last line, where that is of the same kind.
unfoldable pub rising : Last → Kind → ℕ → Bool
rising last kind k = not (eqb (rank last.kind) (rank kind)) || ltb last.number k

-- The tests of the M line: 3, 5 (its pair), 6 (lent memory).
unfoldable pub header_tests : Header → Bank → List Test
header_tests h m =
    header_in_range h or_else OutOfRange
    ∷ is_valid (machine_of_header h).control.pair or_else InvalidPair
    ∷ lent_whole h.size m or_else ShortMemory
    ∷ []

-- The tests of a line behind it, for a machine of this size with so many gates so far: 2, 4 (kind), 3, 4 (rising), and
-- last 9 (register 0) or 13 (a gate's pair). No second M line is in order.
unfoldable pub line_tests : ℕ → ℕ → Last → Line → List Test
line_tests size count last (M a b c d e f) = false or_else OutOfOrder ∷ []
line_tests size count last (G pc p t) =
    in_order last GateLine or_else OutOfOrder
    ∷ gate_in_range count pc p t or_else OutOfRange
    ∷ valid_pair p t or_else GatePair
    ∷ []
line_tests size count last (R k l v) =
    in_order last RegisterLine or_else OutOfOrder
    ∷ entry_in_range register_count k l v or_else OutOfRange
    ∷ rising last RegisterLine k or_else OutOfOrder
    ∷ writable k or_else ZeroRegister
    ∷ []
line_tests size count last (W k l v) =
    in_order last WordLine or_else OutOfOrder
    ∷ entry_in_range size k l v or_else OutOfRange
    ∷ rising last WordLine k or_else OutOfOrder
    ∷ []
line_tests size count last Malformed = false or_else MalformedLine ∷ []

-- What the line behind the M line is tried against.
abbrev pub behind_header : Last
behind_header = record { kind = HeaderLine; number = 0 }

-- What the line behind this one is tried against.
abbrev pub last_of : Line → Last
last_of (M a b c d e f) = behind_header
last_of (G pc p t) = record { kind = GateLine; number = 0 }
last_of (R k l v) = record { kind = RegisterLine; number = k }
last_of (W k l v) = record { kind = WordLine; number = k }
last_of Malformed = behind_header

-- What judging gives: a refusal with its cause and line, or what is accepted.
pub data Verdict (A : Type 0) : Type 0 where
  refuse : Cause → ℕ → Verdict A
  accept : A → Verdict A

-- The verdict on line n and those behind it, by the outcome of its tests.
abbrev pub tried : {A : Type 0} → Outcome → ℕ → Verdict A → Verdict A
tried Done n more = more
tried (Refused cause) n more = refuse cause n

infixl 20 ◌and_then◌
-- The verdict on what follows, where what comes before it is accepted.
abbrev pub ◌and_then◌ : {A B : Type 0} → Verdict A → (A → Verdict B) → Verdict B
refuse cause n and_then more = refuse cause n
accept a and_then more = more a

-- The verdict on an M line.
unfoldable pub judge_m : Header → Bank → Verdict Machine
judge_m h m = tried (first_refusal (header_tests h m)) 1 (accept (machine_of_header h))

-- The verdict on a first line. It must be M, else it is 2.
abbrev pub judge_first : Line → Bank → Verdict Machine
judge_first (M size errorpc pc p t limit) m =
    judge_m (record { size = size; errorpc = errorpc; pc = pc; p = p; t = t; limit = limit }) m
judge_first (G a b c) m = refuse MalformedLine 1
judge_first (R a b c) m = refuse MalformedLine 1
judge_first (W a b c) m = refuse MalformedLine 1
judge_first Malformed m = refuse MalformedLine 1

-- The verdict on a text by its length and its first line: one that is empty or above 65,535 bytes is 1, with line 0.
unfoldable pub judge_header : ℕ → Line → Bank → Verdict Machine
judge_header bytes first m = unless (leb 1 bytes && leb bytes longest_text) (refuse TextLength 0) (judge_first first m)

-- The verdict on the lines behind the first, the next of which is line n.
unfoldable pub judge : Machine → Last → ℕ → List Line → Verdict Machine
judge r last n [] = accept r
judge r last n (l ∷ ls) =
    tried (first_refusal (line_tests r.fixed.size r.fixed.count last l)) n (judge (with_line r l) (last_of l) (n + 1) ls)

-- The lines behind the first.
abbrev pub lines_behind : List ℕ → List Line
lines_behind text = lines (drop (read_line text).next text)

-- The verdict on a text.
unfoldable pub judge_text : List ℕ → Bank → Verdict Machine
judge_text text m =
    judge_header (length text) (read_line text).line m and_then (λ r. judge r behind_header 2 (lines_behind text))

-- ---- memory

-- The memory below the size blank, what lies beyond left.
unfoldable pub cleared : ℕ → Bank → Bank
cleared size m =
    record { values = replicate size 0 ++ drop size m.values; labels = replicate size lowest ++ drop size m.labels }

-- The memory with what a line says of it: the word of a W line set.
abbrev pub with_word : Bank → Line → Bank
with_word m (M a b c d e f) = m
with_word m (G pc p t) = m
with_word m (R k l v) = m
with_word m (W k l v) = with_entry m k l v
with_word m Malformed = m

-- The words of all lines set, one after the other.
unfoldable pub fill : List Line → Bank → Bank
fill [] m = m
fill (l ∷ ls) m = fill ls (with_word m l)

-- ---- the answer

-- The answer of load: its outcome; the refusal's line, or 0; the record; and the lent memory at exit.
pub record Loading : Type 0 where
  pub outcome : Outcome
  pub line : ℕ
  pub machine : Machine
  pub memory : Bank

-- What stands beside a refusal: a record of size 0, which is not well-formed.
abbrev pub no_machine : Machine
no_machine = machine_of_header (record { size = 0; errorpc = 0; pc = 0; p = 0; t = 0; limit = 0 })

-- The answer of a refusal. It leaves words and labels.
abbrev pub refusal : Cause → ℕ → Bank → Loading
refusal cause line m = record { outcome = Refused cause; line = line; machine = no_machine; memory = m }

-- The answer by the verdict.
abbrev pub settle : Verdict Machine → List Line → Bank → Loading
settle (refuse cause line) ls m = refusal cause line m
settle (accept r) ls m =
    record { outcome = Done; line = 0; machine = r; memory = fill ls (cleared r.fixed.size m) }

-- Load.
unfoldable pub load : List ℕ → Bank → Loading
load text m = settle (judge_text text m) (lines_behind text) m
