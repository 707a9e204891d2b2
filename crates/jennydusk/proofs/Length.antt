-- A listing is short enough for its length to be a part of an answer, and so is what a view counts.
-- Assumes nothing.
use Prim.Native.Nat.{ℕ, ◌+◌, ◌^◌, ◌≤◌, ◌<◌}
use mathlib.Core.Path.{◌≡◌}
use native.Mathlib.Omega.{arith}
use mathlib.Core.List.{List}
use lib.Dec.{leb}
use lib.ListN.{length}
use Rattle.model.specs.Record.{Bank, Machine, State, state_of}
use Rattle.model.specs.WellFormed.{well_formed, lent_whole}
use Rattle.model.specs.Numbers.{letter_r, letter_w, register_count, most_words}
use Rattle.model.specs.Listing.{listing_for, Printing, listed, print_for}
use Rattle.model.specs.Load.{load}
use Rattle.model.specs.View.{Look, refused, arrived, look, View, view_of, view_load, view, view_reply}
use Rattle.model.proofs.Truth.{choice}
use Rattle.model.proofs.Ready.{fit}
use Rattle.texts.specs.Inner.Sight.{control_seen, bank_seen}
use Rattle.texts.proofs.Listing.{head_for_most, entries_most, listing_length}
use Rattle.texts.proofs.Buffer.{view_reply_bound}

listing_most : (ℓ : ℕ) (s : State) → s.fixed.size ≤ most_words → length (listing_for ℓ s) < 2 ^ 32
listing_most ℓ s h =
    rw (listing_length ℓ s h)
    (omega (
      arith,
      head_for_most (control_seen ℓ s.control),
      entries_most letter_r (bank_seen ℓ s.registers) 0 register_count,
      entries_most letter_w (bank_seen ℓ s.memory) 0 s.fixed.size,
    ))

-- The length that print answers.
pub bytes_most : (ℓ : ℕ) (r : Machine) (m : Bank) (out : List ℕ) → (print_for ℓ r m out).bytes < 2 ^ 32
unfolding print_for listed
bytes_most ℓ r m out =
    choice (λ (a : Printing). a.bytes < 2 ^ 32) (well_formed r) _ _
    (λ w.
    choice (λ (a : Printing). a.bytes < 2 ^ 32) (lent_whole r.fixed.size m) _ _
    (λ _.
    choice (λ (a : Printing). a.bytes < 2 ^ 32) (leb (length (listing_for ℓ (state_of r m))) (length out)) _ _
    (λ _. listing_most ℓ (state_of r m) (fit r w).fixed.size_high) (λ _. omega arith))
    (λ _. omega arith))
    (λ _. omega arith)

-- The value and the length of a view, of which one is 0.
view_counts : (ℓ : ℕ) (x : Look) (out : List ℕ) → length (view_reply ℓ x) < 2 ^ 32 → (view_of ℓ x out).value < 2 ^ 32
    → (view_of ℓ x out).value + (view_of ℓ x out).bytes < 2 ^ 32
unfolding listed
view_counts ℓ (refused outcome value m) out l v = omega arith
view_counts ℓ (arrived s) out l v =
    choice (λ (a : Printing). 0 + a.bytes < 2 ^ 32) (leb (length (listing_for ℓ s)) (length out)) _ _ (λ _. omega arith) (λ _. omega arith)

pub view_most : (ℓ k : ℕ) (text : List ℕ) (m : Bank) (out : List ℕ) (a : View) → a ≡ view ℓ k text m out → a.value < 2 ^ 32
    → a.value + a.bytes < 2 ^ 32
unfolding view view_load
view_most ℓ k text m out a e v =
    rw e (view_counts ℓ (look k (load text m)) out (omega (arith, view_reply_bound ℓ k text m)) (rw e at v))
