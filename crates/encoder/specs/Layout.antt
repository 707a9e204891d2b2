-- A machine record as words of 64 bits, one number a word, in the order of their places: Places.antt.
-- `record_in` in the crate decoder reads these places. Its proofs/RoundTrip.antt has the two laws: what is written is read
-- again, and what is read was written so.
-- Assumes nothing.
use Rattle.std.specs.Prelude.{ℕ, List, [], ◌∷◌, ◌++◌, drop}
use Rattle.model.specs.declared.Pair.{Pair}
use Rattle.model.specs.declared.CallGate.{CallGate}
use Rattle.model.specs.declared.Fixed.{Fixed}
use Rattle.model.specs.declared.Control.{Control}
use Rattle.model.specs.declared.Call.{Call}
use Rattle.model.specs.declared.Call.TheVariants.{Empty, Gate, Upcall}
use Rattle.model.specs.Record.{Machine, return_of, pair_of, end_tick_of}
use Rattle.encoder.specs.Places as at

-- The kind of a call.
abbrev pub kind_of : Call → ℕ
kind_of Empty = at.empty
kind_of (Gate k q) = at.gate_call
kind_of (Upcall k q e) = at.upcall

-- The five words of a call of this kind, with what it keeps.
abbrev pub kept_words : ℕ → ℕ → Pair → ℕ → List ℕ
kept_words kind back q e = kind ∷ back ∷ q.pc ∷ q.timing ∷ e ∷ []

-- A call's five words: zeros where a call of its kind keeps nothing.
abbrev pub call_words : Call → List ℕ
call_words k = kept_words (kind_of k) (return_of k) (pair_of k) (end_tick_of k)

-- A gate's three words.
abbrev pub gate_words : CallGate → List ℕ
gate_words g = g.entry ∷ g.pair.pc ∷ g.pair.timing ∷ []

-- The gates' words, one gate behind another.
unfoldable pub gates_words : List CallGate → List ℕ
gates_words [] = []
gates_words (g ∷ gs) = gate_words g ++ gates_words gs

-- The words of what no step changes.
abbrev pub fixed_words : Fixed → List ℕ
fixed_words f = f.size ∷ f.limit ∷ f.errorpc ∷ f.count ∷ gates_words f.gates

-- The words of what a step changes besides registers and memory.
abbrev pub control_words : Control → List ℕ
control_words c =
    c.pc ∷ c.pair.pc ∷ c.pair.timing ∷ c.clock
    ∷ (call_words c.first ++ (call_words c.second ++ (c.end ∷ c.why ∷ [])))

-- A record's words.
unfoldable pub words_of : Machine → List ℕ
words_of r = fixed_words r.fixed ++ (control_words r.control ++ (r.registers.values ++ r.registers.labels))

-- The buffer with a record's words at its start.
abbrev pub holding : Machine → List ℕ → List ℕ
holding r b = words_of r ++ drop at.span b
