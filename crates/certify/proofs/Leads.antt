-- Whether a gate leads within, looked at from the first gate to the last.
-- Assumes nothing.
use Prim.Native.Nat.{ℕ, zero, suc, ◌+◌, ◌<◌}
use mathlib.Core.Path.{◌≡◌, refl}
use mathlib.Core.Bool.{true, false, or-true}
use native.Mathlib.Numerals.{add-one}
use native.Mathlib.Omega.{arith}
use lib.Dec.{eqb}
use borrow.Author.Tests.{eqb-true, eqb-false}
use mathlib.Core.Logic.{⊎_elim}
use Rattle.model.proofs.Truth.{either}
use lib.ListN.{get_or}
use Rattle.model.specs.declared.Fixed.{Fixed}
use Rattle.model.specs.WellFormed.{no_gate}
use Rattle.model.specs.Seen.{within}
use Rattle.certificates.specs.Certificate.{leads_within}

module _ (ℓ : ℕ) (f : Fixed) where
  -- None of no gates does.
  pub leads_none : leads_within ℓ f 0 ≡ false
  unfolding leads_within
  leads_none = refl

  -- One more gate, which doesn't.
  pub leads_more : (n : ℕ) → leads_within ℓ f n ≡ false → within ℓ (get_or f.gates n no_gate).pair.pc ≡ false
      → leads_within ℓ f (n + 1) ≡ false
  unfolding leads_within
  leads_more n h e = rw add-one (rw (e, h))

  -- One that does, and those behind it.
  pub leads_here : (i n : ℕ) → i < n → within ℓ (get_or f.gates i no_gate).pair.pc ≡ true → leads_within ℓ f n ≡ true
  unfolding leads_within
  leads_here i zero h e = absurd (omega arith)
  leads_here i (suc n) h e = ⊎_elim
      (λ (s : eqb i n ≡ true). rw (← eqb-true i n s, e))
      (λ (d : eqb i n ≡ false). rw (leads_here i n (omega (arith, eqb-false i n d)) e, or-true))
      (either (eqb i n))
