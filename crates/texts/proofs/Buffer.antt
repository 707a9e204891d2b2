-- What the programs print fits their buffer: every reply takes at most 45,718 bytes, for every image and every memory, a
-- view's for every label and tick, so that an output of 65,536 bytes is never too short. Nor is a memory of 2,048 words and
-- labels.
-- Assumes nothing.
use Prim.Native.Nat.{ℕ, ◌≤◌}
use mathlib.Core.Path.{◌≡◌, refl}
use mathlib.Core.List.{List, [], ◌∷◌, ◌++◌}
use native.Mathlib.Omega.{arith}
use lib.Dec.{leb}
use lib.ListN.{length, take, drop, length-append, length-replicate}
use lib.Seq.{take-append_seam}
use borrow.Author.Tests.{le-leb}
use Rattle.causes.specs.declared.Cause.TheVariants.{ShortMemory, TickAboveLimit}
use Rattle.causes.specs.Causes.{Refused, number_of, is_done}
use Rattle.causes.proofs.Numbers.{is_done_lem}
use Rattle.labels.specs.Label.{highest}
use Rattle.model.specs.Record.{Bank, State}
use Rattle.model.specs.Numbers.{letter_r, letter_w, letter_x, register_count}
use Rattle.model.specs.Step.{run, run_to}
use Rattle.model.specs.Load.{Loading, load}
use Rattle.model.specs.HexLoad.{load_hex}
use Rattle.model.specs.Listing.{line, listing_for}
use Rattle.model.specs.Program.{state_of_load, reply, Firing, fire_load, fire_load_whole, program_memory}
use Rattle.model.specs.View.{Look, look, view_reply}
use Rattle.model.proofs.Truth.{choice}
use Rattle.model.proofs.Ready.{Ready}
use Rattle.model.proofs.Load.{load_not_short}
use Rattle.model.proofs.HexLoad.{hex_not_short}
use Rattle.model.proofs.Run.{run_ready}
use Rattle.model.proofs.RunTo.{run_to_ready}
use Rattle.model.proofs.Program.{ReadyLoad, load_ready}
use Rattle.texts.specs.Inner.Sight.{control_seen}
use Rattle.texts.proofs.Fields.{line_most}
use Rattle.texts.proofs.Listing.{head_for_most, listing_length}
use Rattle.texts.proofs.Bound.{entries_bound}

-- The listing of a ready state, for any label: 342 bytes for the E and F lines, 20 for each R line and 22 for each W line
-- are enough.
ready_bound : (ℓ : ℕ) (s : State) → Ready s → length (listing_for ℓ s) ≤ 45718
ready_bound ℓ s r =
    rw (listing_length ℓ s r.fit.fixed.size_high)
    (omega (
      arith,
      head_for_most (control_seen ℓ s.control),
      entries_bound ℓ letter_r s.registers 1 register_count r.typed.registers.numbers (omega arith),
      entries_bound ℓ letter_w s.memory 3 s.fixed.size r.typed.memory (omega (arith, r.fit.fixed.size_high)),
      r.fit.fixed.size_high,
    ))

-- The line of a refusal.
refusal_bound : (number value : ℕ) → length (line letter_x (number ∷ value ∷ [])) ≤ 45718
refusal_bound number value = omega (arith, line_most letter_x (number ∷ value ∷ []))

-- A reply: that listing, or a refusal's line.
pub reply_bound : (a : Loading) → ReadyLoad a → length (reply a) ≤ 45718
unfolding reply
reply_bound a r =
    choice (λ (o : List ℕ). length o ≤ 45718) (is_done a.outcome) _ _
    (λ e. ready_bound highest (run (state_of_load a)) (run_ready (state_of_load a) (r (is_done_lem a.outcome e))))
    (λ e. refusal_bound (number_of a.outcome) a.line)

-- A view's reply: the listing at a tick, or a refusal's line.
pub view_reply_bound : (ℓ k : ℕ) (text : List ℕ) (m : Bank) → length (view_reply ℓ (look k (load text m))) ≤ 45718
unfolding look
view_reply_bound ℓ k text m =
    let a = load text m in
    let s = state_of_load a in
    choice (λ (x : Look). length (view_reply ℓ x) ≤ 45718) (is_done a.outcome) _ _
    (λ e.
    choice (λ (x : Look). length (view_reply ℓ x) ≤ 45718) (leb k s.fixed.limit) _ _
    (λ _. ready_bound ℓ (run_to k s) (run_to_ready k s (load_ready text m (is_done_lem a.outcome e))))
    (λ _. refusal_bound (number_of (Refused TickAboveLimit)) s.fixed.limit))
    (λ e. refusal_bound (number_of a.outcome) a.line)

-- So an output of 65,536 bytes gets the reply whole.
pub whole_reply : (a : Loading) → ReadyLoad a → (out : List ℕ) → 65536 ≤ length out → fire_load a out ≡ fire_load_whole a out
unfolding fire_load fire_load_whole
whole_reply a r out h = rw (le-leb (length (reply a)) (length out) (omega (arith, reply_bound a r)))

-- The bytes of a text that stands at the start of an output count bytes of the output.
pub front_counts : (o out : List ℕ)
    → (let after = o ++ drop (length o) out in (length o ≤ length after) × (length o ≡ length (take (length o) after)))
front_counts o out = rw (take-append_seam o (drop (length o) out), length-append o (drop (length o) out)) (omega arith, refl)

-- So do those that were written of a reply.
pub whole_counts : (a : Loading) (out : List ℕ) (f : Firing) → f ≡ fire_load_whole a out
    → (f.bytes ≤ length f.output) × (f.bytes ≡ length (take f.bytes f.output))
unfolding fire_load_whole
whole_counts a out f e = rw e (front_counts (reply a) out)

-- The program's memory is never too short for an image: its reply is never that of refusal 6.
words_enough : 2048 ≤ length program_memory.values
unfolding program_memory
words_enough = rw (length-replicate {A = ℕ} 2048 0) (omega arith)

labels_enough : 2048 ≤ length program_memory.labels
unfolding program_memory
labels_enough = rw (length-replicate {A = ℕ} 2048 0) (omega arith)

pub alone_not_short : (text : List ℕ) → (load text program_memory).outcome ≡ Refused ShortMemory → ⊥
alone_not_short text = load_not_short program_memory words_enough labels_enough text

pub hex_alone_not_short : (text hex : List ℕ) (label : ℕ) → (load_hex text hex label program_memory).outcome ≡ Refused ShortMemory
    → ⊥
hex_alone_not_short text hex label = hex_not_short program_memory words_enough labels_enough text hex label
