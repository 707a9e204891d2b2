-- Numbers below a limit, as the bytes that a text begins with are.
-- Assumes nothing.
use Prim.Native.Nat.{ℕ, zero, suc, ◌≤◌, ◌<◌}
use mathlib.Core.Path.{◌≡◌, sym}
use mathlib.Core.Logic.{⊎_elim}
use mathlib.Core.Bool.{true, false}
use mathlib.Core.List.{List, [], ◌∷◌}
use native.Mathlib.Omega.{arith}
use lib.Dec.{ltb, lit<}
use lib.ListN.{get_or}
use borrow.Author.Tests.{ltb-true, ltb-false, lt-ltb, le-ltb}
use Rattle.std.specs.Prelude.{Some, None}
use Rattle.std.proofs.lemmas.Option.{cond_some, none-some}
use Rattle.model.specs.Hex.{byte_of, bytes}
use Rattle.model.proofs.Truth.{choice, either}
use Rattle.hexreader.specs.Reading.{below}

-- It is the model's.
pub below_some : (limit n b : ℕ) → Some b ≡ below limit n → (n ≡ b) × (b < limit)
below_some limit n b e = let h = cond_some (ltb n limit) n b (sym e) in let l : n < limit = ltb-true n limit h.0 in (h.1, omega arith)

-- There is none.
pub below_none : (limit n : ℕ) → None ≡ below limit n → limit ≤ n
below_none limit n e =
    ⊎_elim (λ (t : ltb n limit ≡ true). absurd (none-some n (rw t at e))) (λ (f : ltb n limit ≡ false). ltb-false n limit f)
    (either (ltb n limit))

pub some_below : (limit n b : ℕ) → n ≡ b → b < limit → Some b ≡ below limit n
some_below limit n b e h = rw (e, lt-ltb b limit h)

pub none_below : (limit n : ℕ) → limit ≤ n → None ≡ below limit n
none_below limit n h = rw (le-ltb n limit h)

-- Each byte that a text begins with is one.
pub bytes_small : (xs : List ℕ) (k : ℕ) → get_or (bytes xs) k 0 < 256
unfolding bytes
bytes_small [] k = lit< tt
bytes_small (high ∷ []) k = lit< tt
bytes_small (high ∷ low ∷ xs) zero =
    choice (λ (r : List ℕ). get_or r 0 0 < 256) (ltb (byte_of high low) 256) _ _ (λ e. ltb-true _ _ e) (λ e. lit< tt)
bytes_small (high ∷ low ∷ xs) (suc k) =
    choice (λ (r : List ℕ). get_or r (suc k) 0 < 256) (ltb (byte_of high low) 256) _ _ (λ e. bytes_small xs k) (λ e. lit< tt)
