-- The checks of the hot loop over restrictions that are held and those that are lacked: they are flows of labels.
-- Assumes nothing.
use Rattle.std.proofs.Common.{◌≡◌, ℕ, ◌<◌, Bool, ◌&&◌, sym, ap, ◌∙◌, ap₂}
use mathlib.Core.Bool.{and_assoc}
use lib.Bits.{bit_or}
use Rattle.principals.specs.Principals.{may_go}
use Rattle.labels.specs.Label.{principals, label_count, restrictions, lacking, flows, join}
use Rattle.principals.proofs.Laws.{join_flows}
use Rattle.principals.proofs.Whole.{restricted_flows, or_may_go}

-- h are the restrictions of the label x.
pub record Holds (h x : ℕ) : Type 0 where
  pub is : h ≡ restrictions x

-- l are the restrictions that the label z lacks.
pub record Lacks (l z : ℕ) : Type 0 where
  pub is : l ≡ lacking z
  pub below : z < label_count

module _ {l z : ℕ} (to : Lacks l z) where
  -- What is under the restrictions of a label may go where that flows.
  pub one_goes : {h x : ℕ} → Holds h x → may_go h l ≡ flows x z
  one_goes {h} {x} e = ap₂ may_go e.is to.is ∙ restricted_flows principals x z to.below

  -- What is under those of two labels.
  pub both_go : {h k x y : ℕ} → Holds h x → Holds k y → may_go (bit_or h k) l ≡ (flows x z && flows y z)
  both_go {h} {k} e f = or_may_go h k l ∙ ap₂ ◌&&◌ (one_goes e) (one_goes f)

  -- What is under those of two labels, by their join.
  pub two_go : {h k x y : ℕ} → Holds h x → Holds k y → may_go (bit_or h k) l ≡ flows (join x y) z
  two_go {x = x} {y = y} e f = both_go e f ∙ sym (join_flows principals x y z)

  -- What is under those of three labels, the first two taken together.
  pub three_go : {h k m x y u : ℕ} → Holds h x → Holds k y → Holds m u
      → may_go (bit_or (bit_or h k) m) l ≡ flows (join (join x y) u) z
  three_go {h} {k} {m} {x} {y} {u} e f g =
      or_may_go (bit_or h k) m l ∙ ap₂ ◌&&◌ (two_go e f) (one_goes g) ∙ sym (join_flows principals (join x y) u z)

  -- What is under those of three labels, the last two taken together.
  pub three_go_right : {h k m x y u : ℕ} → Holds h x → Holds k y → Holds m u
      → may_go (bit_or h (bit_or k m)) l ≡ flows (join (join x y) u) z
  three_go_right {h} {k} {m} e f g =
      or_may_go h (bit_or k m) l
      ∙ ap (λ (b : Bool). may_go h l && b) (or_may_go k m l)
      ∙ sym (and_assoc (may_go h l) (may_go k l) (may_go m l))
      ∙ ap (λ (b : Bool). b && may_go m l) (sym (or_may_go h k l))
      ∙ sym (or_may_go (bit_or h k) m l)
      ∙ three_go e f g
