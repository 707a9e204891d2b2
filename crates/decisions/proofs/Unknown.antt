-- Laws about the numbers of ops: which of them are unknown, where the common ones and 15 to 22 are set aside.
-- Assumes nothing.
use Prim.Native.Nat.{ℕ, zero, suc, ◌+◌}
use mathlib.Core.Path.{◌≡◌, refl, subst}
use mathlib.Core.Bool.{Bool, true, false, ◌&&◌, ◌||◌}
use mathlib.Core.List.{List, [], ◌∷◌}
use mathlib.Core.Option.{none}
use native.Mathlib.Omega.{arith}
use lib.Dec.{eqb}
use lib.ListN.{get_elem?}
use borrow.Author.Tests.{ne_eqb}
use Rattle.model.specs.Word.{Op, ops, decode}
use Rattle.model.specs.Step.{known}
use Rattle.model.proofs.Truth.{and_iff, or_iff, clash}
use Rattle.parts.specs.Stages.{is_common_op, fetches_common}

-- It is one of the k numbers from m on.
abbrev among : ℕ → ℕ → ℕ → Bool
among m zero n = false
among m (suc k) n = among m k n || eqb n (m + k)

-- It is none of them, as a `match` leaves it for its last arm.
abbrev pub NoneFrom : ℕ → ℕ → ℕ → Type 0
NoneFrom m zero n = Unit {0}
NoneFrom m (suc k) n = NoneFrom m k n × (n ≡ m + k → ⊥)

-- The test fails then.
not_among : (m k n : ℕ) → NoneFrom m k n → among m k n ≡ false
not_among m zero n h = refl
not_among m (suc k) n h = (or_iff (among m k n) (eqb n (m + k))).1 (not_among m k n h.0, ne_eqb n (m + k) h.1)

-- The same of a number that is written in another way.
moved : (n k : ℕ) → n ≡ k → among 15 8 n ≡ false → among 15 8 k ≡ false
moved n k e a = subst (λ (i : ℕ). among 15 8 i ≡ false) e a

-- Each of these ops, whose numbers start at n, is common or has one of the numbers 15 to 22.
abbrev covered : ℕ → List Op → Bool
covered n [] = true
covered n (op ∷ rest) = (is_common_op op || among 15 8 n) && covered (suc n) rest

-- At a number that is none of those, what isn't common isn't there.
uncommon : (w n : ℕ) (xs : List Op) (k : ℕ) → covered n xs ≡ true → fetches_common (known w (get_elem? xs k)) ≡ false
    → among 15 8 (n + k) ≡ false → get_elem? xs k ≡ none
uncommon w n [] zero c f a = refl
uncommon w n [] (suc k) c f a = refl
uncommon w n (op ∷ xs) zero c f a =
    clash ((and_iff (is_common_op op || among 15 8 n) (covered (suc n) xs)).0 c).0
    ((or_iff (is_common_op op) (among 15 8 n)).1 (f, moved (n + 0) n (omega arith) a))
uncommon w n (op ∷ xs) (suc k) c f a =
    uncommon w (suc n) xs k ((and_iff (is_common_op op || among 15 8 n) (covered (suc n) xs)).0 c).1 f
    (moved (n + suc k) (suc n + k) (omega arith) a)

-- A number that is none of 15 to 22, and whose op isn't common, is no op's.
pub unknown : (w n : ℕ) → fetches_common (known w (decode n)) ≡ false → NoneFrom 15 8 n → decode n ≡ none
unfolding decode
unknown w zero f h = refl
unknown w (suc k) f h = uncommon w 1 ops k refl f (moved (suc k) (1 + k) (omega arith) (not_among 15 8 (suc k) h))
