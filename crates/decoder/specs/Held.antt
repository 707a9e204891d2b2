-- A machine record from words of 64 bits, each at its place in the buffer (specs/Places.antt of the crate encoder), and
-- whether a buffer holds a record.
-- Assumes nothing.
use Rattle.std.specs.Prelude.{ℕ, zero, suc, ◌+◌, ◌*◌, ◌%◌, ◌^◌, Bool, true, false, ◌&&◌, cond, List, [], ◌∷◌, ◌++◌, eqb, get_or}
use Rattle.labels.specs.Label.{label_count}
use Rattle.model.specs.declared.Pair.{Pair}
use Rattle.model.specs.declared.CallGate.{CallGate}
use Rattle.model.specs.declared.Fixed.{Fixed}
use Rattle.model.specs.declared.Control.{Control}
use Rattle.model.specs.declared.Call.{Call}
use Rattle.model.specs.declared.Call.TheVariants.{Empty, Gate, Upcall}
use Rattle.model.specs.Numbers.{most_gates, register_count, value_count}
use Rattle.model.specs.Record.{Bank, Machine}
use Rattle.encoder.specs.Places as at
use Rattle.encoder.specs.Layout.{words_of}

-- ---- a record from words

-- Word i of a buffer, 0 behind its end.
abbrev pub word_at : List ℕ → ℕ → ℕ
word_at b i = get_or b i 0

-- The part of a word that a field of 32 bits can hold, as wide as a value.
abbrev pub low32 : ℕ → ℕ
low32 x = x % value_count

-- Bytes are below this number. Ends and whys are bytes.
abbrev pub byte_count : ℕ
byte_count = 2 ^ 8

-- The part of a word that a byte can hold.
abbrev pub low8 : ℕ → ℕ
low8 x = x % byte_count

-- The label in the low bits of a word.
abbrev pub low_label : ℕ → ℕ
low_label x = x % label_count

-- A pair from two words.
abbrev pub pair_from : ℕ → ℕ → Pair
pair_from p t = record { pc = low_label p; timing = low_label t }

-- A call from its kind, return pc, pair and end tick. An unknown kind gives no call.
unfoldable pub call_from : ℕ → ℕ → Pair → ℕ → Call
call_from kind back q e = cond (eqb kind at.gate_call) (Gate back q) (cond (eqb kind at.upcall) (Upcall back q e) Empty)

-- The call in the words from i on.
unfoldable pub call_in : List ℕ → ℕ → Call
call_in b i =
    call_from (word_at b (i + at.call_kind)) (low32 (word_at b (i + at.call_return_pc)))
    (pair_from (word_at b (i + at.call_pc_label)) (word_at b (i + at.call_timing_label))) (word_at b (i + at.call_end_tick))

-- The gate in the words from i on.
unfoldable pub gate_in : List ℕ → ℕ → CallGate
gate_in b i =
    record {
      entry = low32 (word_at b (i + at.gate_entry));
      pair = pair_from (word_at b (i + at.gate_pc_label)) (word_at b (i + at.gate_timing_label));
    }

-- The list f 0, f 1, .. of n elements.
unfoldable pub tabulate : {A : Type 0} → (ℕ → A) → ℕ → List A
tabulate f zero = []
tabulate f (suc n) = tabulate f n ++ (f n ∷ [])

-- What no step changes, from its words.
unfoldable pub fixed_in : List ℕ → Fixed
fixed_in b =
    record {
      size = low32 (word_at b at.size);
      limit = low32 (word_at b at.limit);
      errorpc = low32 (word_at b at.error_pc);
      count = low32 (word_at b at.gate_count);
      gates = tabulate (λ (k : ℕ). gate_in b (at.first_gate + at.gate_span * k)) most_gates;
    }

-- What a step changes besides registers and memory, from its words.
unfoldable pub control_in : List ℕ → Control
control_in b =
    record {
      pc = low32 (word_at b at.pc);
      pair = pair_from (word_at b at.pc_label) (word_at b at.timing_label);
      clock = low32 (word_at b at.clock);
      first = call_in b at.first_call;
      second = call_in b at.second_call;
      end = low8 (word_at b at.end);
      why = low8 (word_at b at.why);
    }

-- The registers, from their words.
unfoldable pub registers_in : List ℕ → Bank
registers_in b =
    record {
      values = tabulate (λ (k : ℕ). low32 (word_at b (at.first_value + k))) register_count;
      labels = tabulate (λ (k : ℕ). low_label (word_at b (at.first_label + k))) register_count;
    }

-- The record that the words give if each is cut to what its field can hold.
unfoldable pub record_in : List ℕ → Machine
record_in b = record { fixed = fixed_in b; control = control_in b; registers = registers_in b }

-- ---- whether a buffer holds a record

-- The list ys begins with xs.
unfoldable pub begins : List ℕ → List ℕ → Bool
begins [] ys = true
begins (x ∷ xs) [] = false
begins (x ∷ xs) (y ∷ ys) = eqb x y && begins xs ys

-- A record, or none.
pub data Holding : Type 0 where
  holds : Machine → Holding
  nothing : Holding

-- The record that a buffer holds: its words stand at the buffer's start just as they would be written. So there is none
-- in a buffer shorter than the span, nor where a word is not in the range of its field, a kind is unknown, or a word
-- isn't 0 where a call of its kind keeps nothing.
unfoldable pub machine_in : List ℕ → Holding
machine_in b = cond (begins (words_of (record_in b)) b) (holds (record_in b)) nothing
