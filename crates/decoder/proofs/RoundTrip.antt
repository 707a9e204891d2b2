-- The layout's two laws: a record's words, whatever lies behind them, hold that record; and a buffer that holds a record
-- begins with that record's words, the record being one of the code. So exactly the buffers that begin with the words of
-- a record hold one.
-- Assumes nothing.
use Prim.Native.Nat.{ℕ, ◌+◌, ◌<◌}
use native.Mathlib.Nat.{mod-eq_of_lt, mod-lt}
use native.Mathlib.Omega.{arith}
use mathlib.Core.Path.{◌≡◌, refl, ap, subst, ◌∙◌}
use mathlib.Core.Bool.{Bool, true, false, cond}
use mathlib.Core.List.{List, ◌++◌}
use lib.Dec.{eqb}
use lib.ListN.{length, drop, get_or}
use Rattle.labels.specs.Label.{label_count}
use Rattle.model.specs.declared.Pair.{Pair}
use Rattle.model.specs.declared.CallGate.{CallGate}
use Rattle.model.specs.declared.Call.{Call}
use Rattle.model.specs.declared.Call.TheVariants.{Empty, Gate, Upcall}
use Rattle.model.specs.declared.Fixed.{Fixed}
use Rattle.model.specs.declared.Control.{Control}
use Rattle.model.specs.Numbers.{most_gates, register_count, value_count}
use Rattle.model.specs.Record.{Bank, Machine, return_of, pair_of, end_tick_of}
use Rattle.model.specs.WellFormed.{no_gate}
use Rattle.encoder.specs.Places as at
use Rattle.encoder.specs.Layout.{kind_of, gates_words, words_of, holding}
use Rattle.encoder.proofs.Laws.{length_words}
use Rattle.decoder.specs.Held.{word_at, low32, byte_count, low8, low_label, pair_from, call_from, call_in, gate_in, tabulate, fixed_in, control_in, registers_in, record_in, begins, holds, nothing, machine_in}
use Rattle.model.specs.Inner.Typed.{PairTyped, GateTyped, CallTyped, FixedTyped, ControlTyped, RegistersTyped, MachineTyped}
use Rattle.decoder.proofs.Lists.{elements, tabulate_same, length_tabulate, get_d_tabulate, begins_itself, begun}

-- ---- a record with every field cut to its width

abbrev cut_gate : CallGate → CallGate
cut_gate g = record { entry = low32 g.entry; pair = pair_from g.pair.pc g.pair.timing }

abbrev cut_call : Call → Call
cut_call k = call_from (kind_of k) (low32 (return_of k)) (pair_from (pair_of k).pc (pair_of k).timing) (end_tick_of k)

abbrev cut_fixed : Fixed → Fixed
cut_fixed f =
    record {
      size = low32 f.size;
      limit = low32 f.limit;
      errorpc = low32 f.errorpc;
      count = low32 f.count;
      gates = tabulate (λ (k : ℕ). cut_gate (get_or f.gates k no_gate)) most_gates;
    }

abbrev cut_control : Control → Control
cut_control c =
    record {
      pc = low32 c.pc;
      pair = pair_from c.pair.pc c.pair.timing;
      clock = low32 c.clock;
      first = cut_call c.first;
      second = cut_call c.second;
      end = low8 c.end;
      why = low8 c.why;
    }

abbrev cut_bank : Bank → Bank
cut_bank b =
    record {
      values = tabulate (λ (k : ℕ). low32 (get_or b.values k 0)) register_count;
      labels = tabulate (λ (k : ℕ). low_label (get_or b.labels k 0)) register_count;
    }

abbrev cut : Machine → Machine
cut r = record { fixed = cut_fixed r.fixed; control = cut_control r.control; registers = cut_bank r.registers }

-- ---- what is read from a record's words is the record cut

-- The record r with these gates and these registers.
abbrev parted : Machine → List CallGate → List ℕ → List ℕ → Machine
parted r gs vs ls =
    record {
      fixed =
          record
          { size = r.fixed.size; limit = r.fixed.limit; errorpc = r.fixed.errorpc; count = r.fixed.count; gates = gs };
      control = r.control;
      registers = record { values = vs; labels = ls };
    }

-- Where every list is written out, reading computes.
written_out :
    (r : Machine) (g : ℕ → CallGate) (v l : ℕ → ℕ) (rest : List ℕ)
    → record_in (words_of (parted r (tabulate g most_gates) (tabulate v register_count) (tabulate l register_count)) ++ rest)
    ≡ cut (parted r (tabulate g most_gates) (tabulate v register_count) (tabulate l register_count))
unfolding record_in words_of gates_words fixed_in control_in registers_in call_in gate_in call_from tabulate
written_out r g v l rest = refl

-- What is read from the words of r with these lists is that record cut.
abbrev IsCut : Machine → List ℕ → List CallGate → List ℕ → List ℕ → Type 0
IsCut r rest gs vs ls = record_in (words_of (parted r gs vs ls) ++ rest) ≡ cut (parted r gs vs ls)

read_cut :
    (r : Machine) (rest : List ℕ) → length r.fixed.gates ≡ most_gates → length r.registers.values ≡ register_count
    → length r.registers.labels ≡ register_count → record_in (words_of r ++ rest) ≡ cut r
read_cut r rest g v l =
    let gs₀ : List CallGate = tabulate (λ (k : ℕ). get_or r.fixed.gates k no_gate) most_gates in
    let vs₀ : List ℕ = tabulate (λ (k : ℕ). get_or r.registers.values k 0) register_count in
    subst (λ (gs : List CallGate). IsCut r rest gs r.registers.values r.registers.labels)
    (elements no_gate r.fixed.gates g)
    (subst (λ (vs : List ℕ). IsCut r rest gs₀ vs r.registers.labels) (elements 0 r.registers.values v)
    (subst (λ (ls : List ℕ). IsCut r rest gs₀ vs₀ ls) (elements 0 r.registers.labels l) (written_out r _ _ _ rest)))

-- ---- a record of the code is left as it is by the cut

pair_same : (q : Pair) → PairTyped q → pair_from q.pc q.timing ≡ q
pair_same q t = rw (mod-eq_of_lt t.pc, mod-eq_of_lt t.timing) refl

gate_same : (g : CallGate) → GateTyped g → cut_gate g ≡ g
gate_same g t = rw (mod-eq_of_lt t.entry, pair_same g.pair t.pair) refl

call_same : (k : Call) → CallTyped k → cut_call k ≡ k
unfolding call_from
call_same Empty t = refl
call_same (Gate k q) t = rw (mod-eq_of_lt t.back, pair_same q t.pair) refl
call_same (Upcall k q e) t = rw (mod-eq_of_lt t.back, pair_same q t.pair) refl

fixed_same : (f : Fixed) → FixedTyped f → cut_fixed f ≡ f
fixed_same f t =
    let gs : tabulate (λ (k : ℕ). cut_gate (get_or f.gates k no_gate)) most_gates ≡ f.gates
    = tabulate_same _ (λ (k : ℕ). get_or f.gates k no_gate) most_gates (λ k h. gate_same (get_or f.gates k no_gate) (t.gates k h))
    ∙ elements no_gate f.gates t.places in
    rw (mod-eq_of_lt t.size, mod-eq_of_lt t.limit, mod-eq_of_lt t.errorpc, mod-eq_of_lt t.count, gs) refl

control_same : (c : Control) → ControlTyped c → cut_control c ≡ c
control_same c t =
    rw
    (mod-eq_of_lt t.pc, pair_same c.pair t.pair, mod-eq_of_lt t.clock, call_same c.first t.first, call_same c.second t.second, mod-eq_of_lt t.end, mod-eq_of_lt t.why)
    refl

bank_same : (b : Bank) → RegistersTyped b → cut_bank b ≡ b
bank_same b t =
    let vs : tabulate (λ (k : ℕ). low32 (get_or b.values k 0)) register_count ≡ b.values
    = tabulate_same _ (λ (k : ℕ). get_or b.values k 0) register_count (λ k h. mod-eq_of_lt (t.numbers.values k h))
    ∙ elements 0 b.values t.values in
    let ls : tabulate (λ (k : ℕ). low_label (get_or b.labels k 0)) register_count ≡ b.labels
    = tabulate_same _ (λ (k : ℕ). get_or b.labels k 0) register_count (λ k h. mod-eq_of_lt (t.numbers.labels k h))
    ∙ elements 0 b.labels t.labels in
    rw (vs, ls) refl

-- ---- what is read is a record of the code

low32_lt : (x : ℕ) → low32 x < value_count
low32_lt x = mod-lt x (omega arith)

low8_lt : (x : ℕ) → low8 x < byte_count
low8_lt x = mod-lt x (omega arith)

low_label_lt : (x : ℕ) → low_label x < label_count
low_label_lt x = mod-lt x (omega arith)

pair_typed : (p t : ℕ) → PairTyped (pair_from p t)
pair_typed p t = record { pc = low_label_lt p; timing = low_label_lt t }

gate_typed : (b : List ℕ) (i : ℕ) → GateTyped (gate_in b i)
unfolding gate_in
gate_typed b i = record { entry = low32_lt _; pair = pair_typed _ _ }

kept_typed :
    (gate upcall : Bool) (back : ℕ) (q : Pair) (e : ℕ) → back < value_count → PairTyped q
    → CallTyped (cond gate (Gate back q) (cond upcall (Upcall back q e) Empty))
kept_typed true upcall back q e h t = record { back = h; pair = t }
kept_typed false true back q e h t = record { back = h; pair = t }
kept_typed false false back q e h t = record { back = omega arith; pair = record { pc = omega arith; timing = omega arith } }

call_typed : (b : List ℕ) (i : ℕ) → CallTyped (call_in b i)
unfolding call_in call_from
call_typed b i =
    kept_typed (eqb (word_at b (i + at.call_kind)) at.gate_call) (eqb (word_at b (i + at.call_kind)) at.upcall) _ _ _ (low32_lt _)
    (pair_typed _ _)

fixed_typed : (b : List ℕ) → FixedTyped (fixed_in b)
unfolding fixed_in
fixed_typed b =
    record {
      size = low32_lt _;
      limit = low32_lt _;
      errorpc = low32_lt _;
      count = low32_lt _;
      places = length_tabulate _ most_gates;
      gates = λ k h. rw (get_d_tabulate _ most_gates k no_gate h) (gate_typed b _);
    }

control_typed : (b : List ℕ) → ControlTyped (control_in b)
unfolding control_in
control_typed b =
    record {
      pc = low32_lt _;
      pair = pair_typed _ _;
      clock = low32_lt _;
      first = call_typed b at.first_call;
      second = call_typed b at.second_call;
      end = low8_lt _;
      why = low8_lt _;
    }

bank_typed_lem : (b : List ℕ) → RegistersTyped (registers_in b)
unfolding registers_in
bank_typed_lem b =
    record {
      values = length_tabulate _ register_count;
      labels = length_tabulate _ register_count;
      numbers =
          record {
            values = λ k h. rw (get_d_tabulate {A = ℕ} _ register_count k 0 h) (low32_lt _);
            labels = λ k h. rw (get_d_tabulate {A = ℕ} _ register_count k 0 h) (low_label_lt _);
          };
    }

typed_in : (b : List ℕ) → MachineTyped (record_in b)
unfolding record_in
typed_in b = record { fixed = fixed_typed b; control = control_typed b; registers = bank_typed_lem b }

-- ---- the laws

-- What is written is read again.
pub reads_written : (r : Machine) (rest : List ℕ) → MachineTyped r → machine_in (words_of r ++ rest) ≡ holds r
unfolding machine_in
reads_written r rest t =
    let e : record_in (words_of r ++ rest) ≡ r
    = read_cut r rest t.fixed.places t.registers.values t.registers.labels
    ∙ rw (fixed_same r.fixed t.fixed, control_same r.control t.control, bank_same r.registers t.registers) refl in
    rw (e, begins_itself (words_of r) rest) refl

-- What is held in a buffer is what its words give, and they begin it.
held :
    (t : Bool) (b : List ℕ) {q r : Machine} → begins (words_of q) b ≡ t → cond t (holds q) nothing ≡ holds r
    → (begins (words_of q) b ≡ true) × (q ≡ r)
held true b e h = (e, cc)
held false b e h = (cc, cc)

-- What is read was written so: the buffer begins with the words of the record that it holds.
pub written_read : (b : List ℕ) (r : Machine) → machine_in b ≡ holds r → b ≡ holding r b
unfolding machine_in
written_read b r h =
    let p : (begins (words_of (record_in b)) b ≡ true) × (record_in b ≡ r) = held (begins (words_of (record_in b)) b) b refl h in
    rw (← p.1) (begun (words_of (record_in b)) b p.0 ∙ ap (λ (n : ℕ). words_of (record_in b) ++ drop n b) (length_words (record_in b) (typed_in b).fixed.places (typed_in b).registers.values (typed_in b).registers.labels))

-- And it is a record of the code.
pub typed_read : (b : List ℕ) (r : Machine) → machine_in b ≡ holds r → MachineTyped r
unfolding machine_in
typed_read b r h =
    let p : (begins (words_of (record_in b)) b ≡ true) × (record_in b ≡ r) = held (begins (words_of (record_in b)) b) b refl h in
    rw (← p.1) (typed_in b)
