-- A number spelled from its last digit on: what the loop of the code keeps.
-- Assumes nothing.
use Prim.Native.Nat.{ℕ, suc, ◌+◌, ◌-◌, ◌/◌, ◌%◌, ◌^◌, ◌<◌, ◌≤◌}
use mathlib.Core.Path.{◌≡◌, refl, ap, ◌∙◌}
use mathlib.Core.Logic.{⊎_elim}
use mathlib.Core.List.{List, [], ◌∷◌, ◌++◌, append_assoc}
use native.Mathlib.Omega.{arith}
use lib.Dec.{ltb}
use lib.ListN.{length, take, drop, set, length-append, length-set}
use lib.Seq.{drop_at, set_split, length-take-le}
use borrow.Author.Tests.{ltb-true, ltb-false}
use Rattle.model.specs.Listing.{decimal}
use Rattle.model.proofs.Truth.{either}
use Rattle.writer.specs.Writing.{over}
use Rattle.texts.proofs.Decimal.{decimal_digit, decimal_digits, least_digits}

-- The digits of `rest` are still to be written before `at`, those behind them stand, and so does what stood behind these.
pub record Spelled (n : ℕ) (before after : List ℕ) (at rest : ℕ) : Type 0 where
  pub place : at ≡ length (decimal rest)
  pub small : rest ≤ n
  pub same : length after ≡ length before
  pub room : at ≤ length after
  pub text : decimal rest ++ drop at after ≡ over (decimal n) before

-- What stands from a place on once that place is set.
set_drop : (xs : List ℕ) (i a : ℕ) → i < length xs → drop i (set xs i a) ≡ a ∷ drop (suc i) xs
set_drop xs i a h = rw (set_split xs i a h) (drop_at (take i xs) _ i (length-take-le i xs (omega arith)))

-- Before the first digit.
pub spell_none : (n : ℕ) (out : List ℕ) (at : ℕ) → at ≡ length (decimal n) → at ≤ length out → Spelled n out out at n
unfolding over
spell_none n out at e h = record { place = e; small = omega arith; same = refl; room = h; text = rw e }

-- A number of one digit is below ten, and any other is not.
one_digit : (n : ℕ) → n < 2 ^ 64 → length (decimal n) ≡ 1 → n < 10
one_digit n h e =
    ⊎_elim (λ t. ltb-true _ _ t)
    (λ f.
    let k = simp length-append at (ap length (decimal_digits n (ltb-false _ _ f) h)) in
    absurd (omega (arith, least_digits (n / 10))))
    (either (ltb n 10))

more_digits : (n : ℕ) → 2 ≤ length (decimal n) → 10 ≤ n
more_digits n h =
    ⊎_elim (λ t. let k = ap length (decimal_digit n (ltb-true _ _ t)) in absurd (omega arith)) (λ f. ltb-false _ _ f)
    (either (ltb n 10))

module _ (n : ℕ) (before after : List ℕ) (at rest : ℕ) (s : Spelled n before after at rest) where
  -- One digit more, as long as there are two.
  pub spell_more : 2 ≤ at → n < 2 ^ 64 → Spelled n before (set after (at - 1) (48 + rest % 10)) (at - 1) (rest / 10)
  spell_more h b =
      let l : 10 ≤ rest = more_digits rest (omega (arith, s.place)) in
      let e : decimal rest ≡ decimal (rest / 10) ++ ((48 + rest % 10) ∷ []) = decimal_digits rest l (omega (arith, s.small)) in
      let k = simp length-append at (ap length e) in
      let p = s.place in
      let r = s.room in
      let j : suc (at - 1) ≡ at = omega arith in
      record {
        place = omega arith;
        small = omega (arith, s.small);
        same = simp length-set s.same;
        room = simp length-set (omega arith);
        text =
            rw (set_drop after (at - 1) (48 + rest % 10) (omega arith))
            (ap (λ (i : ℕ). decimal (rest / 10) ++ ((48 + rest % 10) ∷ drop i after)) j
            ∙ rw (← append_assoc _ ((48 + rest % 10) ∷ []) _, ← e) s.text);
      }

  -- The first one is left.
  pub spell_first : at ≤ 1 → n < 2 ^ 64 → rest < 10
  spell_first h b = one_digit rest (omega (arith, s.small)) (omega (arith, s.place, least_digits rest))

  pub spell_last : rest < 10 → set after 0 (48 + rest) ≡ over (decimal n) before
  spell_last h =
      let e : decimal rest ≡ (48 + rest) ∷ [] = decimal_digit rest h in
      let p : at ≡ 1 = s.place ∙ ap length e in
      let r : 0 < length after = omega (arith, s.room) in
      rw (set_split after 0 (48 + rest) r) (rw (e, p) at s.text)
