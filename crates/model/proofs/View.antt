-- Views: equal sight is equal listing, and what an image comes to by a tick.
-- Assumes nothing.
use Prim.Native.Nat.{ℕ, zero, suc, ◌+◌}
use mathlib.Core.Path.{◌≡◌, refl, ap, ap₂}
use mathlib.Core.Bool.{true, false}
use mathlib.Core.List.{List, ◌++◌}
use lib.Dec.{leb}
use Rattle.causes.specs.declared.Cause.TheVariants.{TickAboveLimit}
use Rattle.causes.specs.Causes.{Done, Refused}
use Rattle.model.specs.Numbers.{letter_r, letter_w, register_count, most_words}
use Rattle.model.specs.Record.{State, register, word}
use Rattle.model.specs.Step.{run_to}
use Rattle.model.specs.Load.{Loading}
use Rattle.model.specs.Listing.{head_for, entry_for, entry_lines, listing_for}
use Rattle.model.specs.Program.{state_of_load}
use Rattle.model.specs.Seen.{Seen, seen_at, LowEquivalent}
use Rattle.model.specs.View.{refused, arrived, look}

-- ---- equal sight

entries_same : (letter : ℕ) (f g : ℕ → Seen) → ((k : ℕ) → f k ≡ g k) → (j n : ℕ) → entry_lines letter f j n ≡ entry_lines letter g j n
unfolding entry_lines
entries_same letter f g e j zero = refl
entries_same letter f g e j (suc n) =
    ap₂ (λ (xs ys : List ℕ). xs ++ ys) (ap (entry_for letter j) (e j)) (entries_same letter f g e (j + 1) n)

-- States that are alike at or below ℓ have one listing for ℓ.
pub same_listing : (ℓ : ℕ) (s t : State) → LowEquivalent ℓ s t → listing_for ℓ s ≡ listing_for ℓ t
unfolding listing_for
same_listing ℓ s t e =
    ap₂ (λ (xs ys : List ℕ). xs ++ ys)
    (ap₂ (λ (xs ys : List ℕ). xs ++ ys) (ap head_for e.control)
    (entries_same letter_r (λ k. seen_at ℓ s (register k)) (λ k. seen_at ℓ t (register k)) (λ k. e.locations (register k)) 0 register_count))
    (entries_same letter_w (λ k. seen_at ℓ s (word k)) (λ k. seen_at ℓ t (word k)) (λ k. e.locations (word k)) 0 most_words)

-- ---- an image by a tick

-- An accepted text by a tick up to the limit, and by one above it.
pub look_arrives : (k : ℕ) (a : Loading) → a.outcome ≡ Done → leb k a.machine.fixed.limit ≡ true
    → look k a ≡ arrived (run_to k (state_of_load a))
unfolding look
look_arrives k a y e = rw (y, e)

pub look_above : (k : ℕ) (a : Loading) → a.outcome ≡ Done → leb k a.machine.fixed.limit ≡ false
    → look k a ≡ refused (Refused TickAboveLimit) a.machine.fixed.limit a.memory
unfolding look
look_above k a y e = rw (y, e)
