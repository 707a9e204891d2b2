-- Words placed one after the other, each made of the bytes given.
-- Assumes nothing.
use Prim.Native.Nat.{ℕ, ◌+◌, ◌<◌}
use mathlib.Core.Path.{◌≡◌, refl, ap, ◌∙◌}
use mathlib.Core.List.{List, ◌++◌}
use native.Mathlib.Numerals.{add-one}
use lib.ListN.{length, drop, set}
use lib.Seq.{drop-cons, append_snoc, set_at}
use Rattle.model.specs.HexLoad.{firsts}
use Rattle.model.proofs.HexLoad.{length_firsts}

-- The first k of a row of numbers stand in xs, which held xs₀.
pub record Placed (f : ℕ → ℕ) (xs₀ xs : List ℕ) (k : ℕ) : Type 0 where
  pub placed : xs ≡ firsts k f ++ drop k xs₀

-- None yet.
pub placed_none : (f : ℕ → ℕ) (xs : List ℕ) → Placed f xs xs 0
unfolding firsts
placed_none f xs = record { placed = refl }

-- The next number in its place.
next_placed : (f : ℕ → ℕ) (xs : List ℕ) (k : ℕ) → k < length xs
    → set (firsts k f ++ drop k xs) k (f k) ≡ firsts (k + 1) f ++ drop (k + 1) xs
unfolding firsts
next_placed f xs k h =
    ap (λ (l : List ℕ). set (firsts k f ++ l) k (f k)) (drop-cons xs k 0 h)
    ∙ set_at (firsts k f) _ _ (f k) k (length_firsts k f)
    ∙ rw (add-one, append_snoc)

-- One more.
pub placed_more : {f : ℕ → ℕ} {xs₀ xs : List ℕ} {k : ℕ} (v : ℕ) → Placed f xs₀ xs k → v ≡ f k → k < length xs₀
    → Placed f xs₀ (set xs k v) (k + 1)
placed_more {f} {xs₀} {xs} {k} v b e h =
    record { placed = ap (set xs k) e ∙ ap (λ (l : List ℕ). set l k (f k)) b.placed ∙ next_placed f xs₀ k h }
