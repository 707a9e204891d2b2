-- Truth values: tests that passed and tests that failed, taken apart and put together.
-- Assumes nothing.
use mathlib.Core.Path.{◌≡◌, refl, sym, ap, ◌∙◌}
use mathlib.Core.Logic.{◌↔◌, ◌⊎◌, inl, inr}
use mathlib.Core.Bool.{Bool, true, false, not, ◌&&◌, ◌||◌, cond, true≢false}

-- What holds of both branches, each under its test's outcome, holds of the choice.
pub choice {ℓ κ} : {A : Type ℓ} (P : A → Type κ) (b : Bool) (x y : A) → (b ≡ true → P x) → (b ≡ false → P y)
    → P (cond b x y)
choice P true x y f g = f refl
choice P false x y f g = g refl

-- Two choices by tests of one outcome are one where what they choose is, as far as the test passes.
pub same_choice {ℓ} : {A : Type ℓ} (b c : Bool) (x y z : A) → (b ≡ true → x ≡ y) → b ≡ c → cond b x z ≡ cond c y z
same_choice true c x y z f e = f refl ∙ ap (λ (d : Bool). cond d y z) e
same_choice false c x y z f e = ap (λ (d : Bool). cond d y z) e

-- A test passes or fails.
pub either : (b : Bool) → (b ≡ true) ⊎ (b ≡ false)
either true = inl refl
either false = inr refl

-- A conjunction passes exactly where both parts do.
pub and_iff : (a b : Bool) → ((a && b) ≡ true) ↔ ((a ≡ true) × (b ≡ true))
and_iff true b = ((λ e. (refl, e)), λ h. h.1)
and_iff false true = ((λ e. (e, refl)), λ h. h.0)
and_iff false false = ((λ e. (e, e)), λ h. h.0)

-- Three tests that all pass.
pub and_three : (a b c : Bool) → (a && b && c) ≡ true → (a ≡ true) × (b ≡ true) × (c ≡ true)
and_three a b c e = let h = (and_iff (a && b) c).0 e in let k = (and_iff a b).0 h.0 in (k.0, k.1, h.1)

-- No test both passes and fails.
pub clash {ℓ} : {P : Type ℓ} {b : Bool} → b ≡ true → b ≡ false → P
clash p q = absurd (true≢false (sym p ∙ q))

-- A disjunction fails exactly where both parts do.
pub or_iff : (a b : Bool) → ((a || b) ≡ false) ↔ ((a ≡ false) × (b ≡ false))
or_iff true b = ((λ e. clash refl e), λ h. h.0)
or_iff false b = ((λ e. (refl, e)), λ h. h.1)

-- Of a disjunction that passes one part does.
pub or_true : (a b : Bool) → (a || b) ≡ true → (a ≡ true) ⊎ (b ≡ true)
or_true true b e = inl refl
or_true false b e = inr e

-- A negation passes exactly where the test fails.
pub not_iff : (a : Bool) → (not a ≡ true) ↔ (a ≡ false)
not_iff true = ((λ e. sym e), λ e. sym e)
not_iff false = ((λ e. refl), λ e. refl)

-- Two tests that imply each other have one outcome.
pub same_outcome : (a b : Bool) → (a ≡ true → b ≡ true) → (b ≡ true → a ≡ true) → a ≡ b
same_outcome true b f g = sym (f refl)
same_outcome false true f g = g refl
same_outcome false false f g = refl
