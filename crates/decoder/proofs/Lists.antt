-- Laws about lists: one given by its elements, an array made by a function of the place, and one list that begins with another.
-- Assumes nothing.
use Prim.Native.Nat.{ℕ, zero, suc, ◌+◌, ◌≤◌, ◌<◌}
use native.Mathlib.Nat.{eq-or-lt_of_le}
use native.Mathlib.Nat.{add-zero}
use native.Mathlib.Omega.{arith}
use mathlib.Core.Path.{◌≡◌, refl, sym, subst, ◌∙◌}
use mathlib.Core.Logic.{⊎_elim}
use mathlib.Core.Bool.{true}
use mathlib.Core.List.{List, [], ◌∷◌, ◌++◌}
use lib.Dec.{eqb}
use lib.ListN.{length, take, drop, get_or, length-append, get_or-append}
use lib.Seq.{take-suc, take_all, get_or_at}
use borrow.Author.Tests.{eq-eqb, eqb-true}
use Rattle.std.specs.List.{starts_with}
use denote.Param.Members.{Mut, Called}
use Rattle.std.specs.Array.{IsFromFnResult, IsFromFnResultFrom}
use Rattle.std.proofs.lemmas.List.{same_lists}
use Rattle.model.proofs.Truth.{and_iff}
use Rattle.decoder.specs.Held.{tabulate, begins}

-- ---- the list f 0, f 1, ..

module _ {A : Type 0} where
  -- A list is its own elements.
  pub tabulated : (d : A) (n : ℕ) (xs : List A) → n ≤ length xs → tabulate (λ (k : ℕ). get_or xs k d) n ≡ take n xs
  unfolding tabulate
  tabulated d zero xs h = refl
  tabulated d (suc n) xs h = rw (tabulated d n xs (omega arith)) (sym (take-suc xs n d h))

  pub elements : (d : A) {n : ℕ} (xs : List A) → length xs ≡ n → tabulate (λ (k : ℕ). get_or xs k d) n ≡ xs
  elements d {n} xs e = tabulated d n xs (omega arith) ∙ take_all n xs (omega arith)

  pub tabulate_same : (f g : ℕ → A) (n : ℕ) → ((k : ℕ) → k < n → f k ≡ g k) → tabulate f n ≡ tabulate g n
  unfolding tabulate
  tabulate_same f g zero e = refl
  tabulate_same f g (suc n) e = rw (tabulate_same f g n (λ k h. e k (omega arith)), e n (omega arith)) refl

  pub length_tabulate : (f : ℕ → A) (n : ℕ) → length (tabulate f n) ≡ n
  unfolding tabulate
  length_tabulate f zero = refl
  length_tabulate f (suc n) = length-append (tabulate f n) (f n ∷ []) ∙ rw (length_tabulate f n) (omega arith)

  pub get_d_tabulate : (f : ℕ → A) (n k : ℕ) (d : A) → k < n → get_or (tabulate f n) k d ≡ f k
  unfolding tabulate
  get_d_tabulate f zero k d h = let z : ⊥ = omega arith in absurd z
  get_d_tabulate f (suc n) k d h =
      let within : k ≤ n = omega arith in
      ⊎_elim (λ e. rw e (get_or_at (tabulate f n) (f n) [] d n (length_tabulate f n)))
      (λ below.
      get_or-append (tabulate f n) (f n ∷ []) d k (rw (length_tabulate f n) below) ∙ get_d_tabulate f n k d below)
      (eq-or-lt_of_le within)

-- ---- an array made by a function of the place, where each call leaves a state in which I holds

module _ {F A : Type 0} (g : Mut F (ℕ × Unit {0}) A) (I : F → Type 0) (h : ℕ → A)
    (call : (k : ℕ) (x : A) (p q : F) → I p → Called g p (k, tt) x q → (x ≡ h k) × I q) where
  made_from :
      (f : F) (xs : List A) (i n k : ℕ) (d : A) → I f → IsFromFnResultFrom g f xs i n → k < n
      → get_or xs (i + k) d ≡ h (i + k)
  made_from f xs i zero k d s r below = absurd (omega arith)
  made_from f xs i (suc n) zero d s r below = rw (add-zero i) (r.2.1 d ∙ (call i r.1 f r.0 s r.3).0)
  made_from f xs i (suc n) (suc k) d s r below =
      let e : i + suc k ≡ (i + 1) + k = omega arith in
      rw e (made_from r.0 xs (i + 1) n k d (call i r.1 f r.0 s r.3).1 r.4 (omega arith))

  pub made : (f : F) (xs : List A) (n : ℕ) → I f → IsFromFnResult g f xs n → xs ≡ tabulate h n
  made f xs n s calls =
      same_lists xs (tabulate h n) (calls.long ∙ sym (length_tabulate h n))
      (λ k d below.
      let within : k < n = omega (arith, calls.long) in
      let e : 0 + k ≡ k = omega arith in
      rw (get_d_tabulate h n k d within) (subst (λ (j : ℕ). get_or xs j d ≡ h j) e (made_from f xs 0 n k d s calls.each within)))

-- ---- one list begins with another

-- As the library's test has it.
pub begins_is : (ws b : List ℕ) → starts_with eqb b ws ≡ begins ws b
unfolding begins
begins_is [] b = refl
begins_is (w ∷ ws) [] = refl
begins_is (w ∷ ws) (x ∷ b) = rw (begins_is ws b)

-- A list begins with itself.
pub begins_itself : (xs ys : List ℕ) → begins xs (xs ++ ys) ≡ true
unfolding begins
begins_itself [] ys = refl
begins_itself (x ∷ xs) ys = rw (eq-eqb x x refl) (begins_itself xs ys)

-- What begins with a list is that list and the rest.
pub begun : (xs ys : List ℕ) → begins xs ys ≡ true → ys ≡ xs ++ drop (length xs) ys
unfolding begins
begun [] ys h = refl
begun (x ∷ xs) [] h = cc
begun (x ∷ xs) (y ∷ ys) h =
    let e : (eqb x y ≡ true) × (begins xs ys ≡ true) = (and_iff (eqb x y) (begins xs ys)).0 h in
    let z : x ≡ y = eqb-true x y e.0 in
    rw (z, ← begun xs ys e.1) refl
