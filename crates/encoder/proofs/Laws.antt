-- How many words the parts of a record take, and the parts put one behind another.
-- Assumes nothing.
use Prim.Native.Nat.{ℕ, ◌*◌}
use native.Mathlib.Omega.{arith}
use mathlib.Core.Path.{◌≡◌, refl, ap, ◌∙◌}
use mathlib.Core.List.{List, [], ◌∷◌, ◌++◌, map}
use lib.ListN.{length, length-append}
use lib.Seq.{sets}
use Rattle.std.specs.List.{flat_map}
use Rattle.model.specs.declared.CallGate.{CallGate}
use Rattle.model.specs.Numbers.{most_gates, register_count}
use Rattle.model.specs.Record.{Machine}
use Rattle.encoder.specs.Places as at
use Rattle.encoder.specs.Layout.{gate_words, gates_words, fixed_words, control_words, words_of}
use Rattle.encoder.proofs.Lists.{sets_then}

pub length_gates : (gs : List CallGate) → length (gates_words gs) ≡ at.gate_span * length gs
unfolding gates_words
length_gates [] = refl
length_gates (g ∷ gs) = rw (length_gates gs) (omega arith)

-- The gates' words are those of each gate, joined.
pub gates_joined : (gs : List CallGate) → flat_map (λ ws. ws) (map gate_words gs) ≡ gates_words gs
unfolding gates_words
gates_joined [] = refl
gates_joined (g ∷ gs) = rw (gates_joined gs) refl

-- The words of the three parts of a record, put one behind another.
pub put_parts :
    (b : List ℕ) (r : Machine) {b₁ b₂ b₃ : List ℕ} → length r.fixed.gates ≡ most_gates
    → b₁ ≡ sets b at.size (fixed_words r.fixed) → b₂ ≡ sets b₁ at.pc (control_words r.control)
    → b₃ ≡ sets b₂ at.first_value (r.registers.values ++ r.registers.labels) → b₃ ≡ sets b 0 (words_of r)
unfolding words_of
put_parts b r g p q s =
    let fs : List ℕ = fixed_words r.fixed in
    let f : length fs ≡ at.pc = rw (length_gates, g) refl in
    let c : List ℕ = control_words r.control in
    let rs : List ℕ = r.registers.values ++ r.registers.labels in
    s
    ∙ ap (λ (x : List ℕ). sets x at.first_value rs) (q ∙ ap (λ (x : List ℕ). sets x at.pc c) p)
    ∙ sets_then (sets b at.size fs) at.pc c rs refl
    ∙ sets_then b at.size fs (c ++ rs) (rw f refl)

pub length_words :
    (r : Machine) → length r.fixed.gates ≡ most_gates → length r.registers.values ≡ register_count
    → length r.registers.labels ≡ register_count → length (words_of r) ≡ at.span
unfolding words_of
length_words r g v l =
    simp (length-append, length_gates, g, v, l) refl
