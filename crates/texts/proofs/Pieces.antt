-- A text read piece by piece, each from where the last one ended, so many at the most: as many pieces as there are bytes are
-- enough.
-- Assumes nothing.
use Prim.Native.Nat.{ℕ, zero, suc, ◌≤◌, ◌<◌}
use mathlib.Core.Path.{◌≡◌, sym, ◌∙◌}
use mathlib.Core.List.{List, [], ◌∷◌}
use native.Mathlib.Nat.{le_refl}
use native.Mathlib.Omega.{arith}
use lib.ListN.{length, drop, length-drop}

-- What a definition of pieces says: `first` puts the first piece of a text before those of the rest, which begins `next`
-- bytes on. Where the piece isn't good, the rest doesn't matter; else it takes a byte at least.
pub record Pieces {A : Type 0} (pieces : ℕ → List ℕ → List A) (first : List ℕ → List A → List A) (next : List ℕ → ℕ) (Good : List ℕ → Type 0) : Type 0 where
  pub none : (xs : List ℕ) → pieces zero xs ≡ []
  pub empty : (k : ℕ) → pieces (suc k) [] ≡ []
  pub more : (k b : ℕ) (xs : List ℕ) → pieces (suc k) (b ∷ xs) ≡ first (b ∷ xs) (pieces k (drop (next (b ∷ xs)) (b ∷ xs)))
  pub same : (xs : List ℕ) (ps qs : List A) → (Good xs → ps ≡ qs) → first xs ps ≡ first xs qs
  pub moves : (xs : List ℕ) → Good xs → 1 ≤ next xs

module _ {A : Type 0} {pieces : ℕ → List ℕ → List A} {first : List ℕ → List A → List A} {next : List ℕ → ℕ} {Good : List ℕ → Type 0}
    (p : Pieces pieces first next Good) where
  -- An empty text has none.
  pub none_of : (k : ℕ) → pieces k [] ≡ []
  none_of zero = p.none []
  none_of (suc k) = p.empty k

  -- What is behind a good piece is shorter.
  shorter : (b : ℕ) (xs : List ℕ) (k : ℕ) → length (b ∷ xs) ≤ suc k → Good (b ∷ xs)
      → length (drop (next (b ∷ xs)) (b ∷ xs)) ≤ k
  shorter b xs k h m = omega (arith, length-drop (next (b ∷ xs)) (b ∷ xs), p.moves (b ∷ xs) m)

  -- As many as there are bytes are enough: more give the same.
  pub enough : (j k : ℕ) (xs : List ℕ) → length xs ≤ j → length xs ≤ k → pieces j xs ≡ pieces k xs
  enough zero k [] h g = p.none [] ∙ sym (none_of k)
  enough zero k (b ∷ xs) h g = absurd (omega arith)
  enough (suc j) k [] h g = p.empty j ∙ sym (none_of k)
  enough (suc j) zero (b ∷ xs) h g = absurd (omega arith)
  enough (suc j) (suc k) (b ∷ xs) h g =
      p.more j b xs
      ∙ p.same (b ∷ xs) _ _
      (λ m. enough j k (drop (next (b ∷ xs)) (b ∷ xs)) (shorter b xs j h m) (shorter b xs k g m))
      ∙ sym (p.more k b xs)

  -- A text that isn't empty: its first piece, and the pieces of the rest.
  pub first_of : (xs : List ℕ) → 0 < length xs
      → pieces (length xs) xs ≡ first xs (pieces (length (drop (next xs) xs)) (drop (next xs) xs))
  first_of [] h = absurd (omega arith)
  first_of (b ∷ xs) h =
      p.more (length xs) b xs
      ∙ p.same (b ∷ xs) _ _
      (λ m.
      enough (length xs) (length (drop (next (b ∷ xs)) (b ∷ xs))) (drop (next (b ∷ xs)) (b ∷ xs))
      (shorter b xs (length xs) (le_refl _) m)
      (le_refl _))
