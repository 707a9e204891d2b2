-- The definitions over whole numbers: once the integrity is turned, flow, join and meet take a handful of bit operations on
-- whole labels. The code does them so. Assumes nothing.
use Prim.Native.Nat.{ℕ, ◌+◌, ◌-◌, ◌/◌, ◌%◌, ◌^◌, ◌<◌}
use mathlib.Core.Path.{◌≡◌, sym, ap, ap₂, ◌∙◌}
use mathlib.Core.Bool.{true, ◌&&◌, and-eq-true_iff}
use native.Mathlib.Omega.{arith}
use lib.Bits.{bit_and, bit_or, bit_xor, xor_zero_r, and_shr, or_shr, xor_shr, and_mod, or_mod, xor_mod, and_comm}
use lib.Dec.{eqb}
use lib.Pow.{pow_pos, ones_lt}
use borrow.Author.Tests.{eqb-true, eq-eqb}
use Rattle.principals.specs.Principals.{subset, label, integrity, confidentiality, flows, join, meet, lowest, highest, may_go, restrictions, lacking}
use Rattle.principals.proofs.Subset.{same_truth, without, lacked_by_neither, lacked_by_both, apart_or}
use Rattle.principals.proofs.Laws.{integrity_label, confidentiality_label, label_halves, integrity_lt, confidentiality_lt, subset_all}

-- ---- the halves of a label

-- An operation on bits works on the integrity alone.
integrity_op : (op : ℕ → ℕ → ℕ) → ((a b k : ℕ) → op a b / 2 ^ k ≡ op (a / 2 ^ k) (b / 2 ^ k)) → (n a b : ℕ)
    → integrity n (op a b) ≡ op (integrity n a) (integrity n b)
unfolding integrity
integrity_op op half n a b = half a b n

-- And on the confidentiality alone.
confidentiality_op : (op : ℕ → ℕ → ℕ) → ((a b k : ℕ) → op a b % 2 ^ k ≡ op (a % 2 ^ k) (b % 2 ^ k)) → (n a b : ℕ)
    → confidentiality n (op a b) ≡ op (confidentiality n a) (confidentiality n b)
unfolding confidentiality
confidentiality_op op rest n a b = rest a b n

-- ---- a label that is turned by the lowest or the highest

-- The integrity turned.
integrity_turned : (n l : ℕ) → integrity n (bit_xor l (lowest n)) ≡ bit_xor (integrity n l) (2 ^ n - 1)
unfolding lowest
integrity_turned n l =
    integrity_op bit_xor xor_shr n l (label n (2 ^ n - 1) 0)
    ∙ ap (bit_xor (integrity n l)) (integrity_label n (2 ^ n - 1) 0 (pow_pos n))

-- The confidentiality is left.
confidentiality_kept : (n l : ℕ) → confidentiality n (bit_xor l (lowest n)) ≡ confidentiality n l
unfolding lowest
confidentiality_kept n l =
    confidentiality_op bit_xor xor_mod n l (label n (2 ^ n - 1) 0)
    ∙ ap (bit_xor (confidentiality n l)) (confidentiality_label n (2 ^ n - 1) 0 (pow_pos n))
    ∙ xor_zero_r (confidentiality n l)

-- The integrity is left.
integrity_kept : (n l : ℕ) → integrity n (bit_xor l (highest n)) ≡ integrity n l
unfolding highest
integrity_kept n l =
    integrity_op bit_xor xor_shr n l (label n 0 (2 ^ n - 1))
    ∙ ap (bit_xor (integrity n l)) (integrity_label n 0 (2 ^ n - 1) (ones_lt n))
    ∙ xor_zero_r (integrity n l)

-- The confidentiality turned.
confidentiality_turned : (n l : ℕ) → confidentiality n (bit_xor l (highest n)) ≡ bit_xor (confidentiality n l) (2 ^ n - 1)
unfolding highest
confidentiality_turned n l =
    confidentiality_op bit_xor xor_mod n l (label n 0 (2 ^ n - 1))
    ∙ ap (bit_xor (confidentiality n l)) (confidentiality_label n 0 (2 ^ n - 1) (ones_lt n))

-- ---- join and meet

-- An operation between two labels whose integrity is turned, and the result's turned back: on the confidentiality it is
-- itself, on the integrity the other one of the two.
whole_op : (op other : ℕ → ℕ → ℕ) → ((a b k : ℕ) → op a b / 2 ^ k ≡ op (a / 2 ^ k) (b / 2 ^ k))
    → ((a b k : ℕ) → op a b % 2 ^ k ≡ op (a % 2 ^ k) (b % 2 ^ k))
    → ((m x y : ℕ) → subset x m ≡ true → subset y m ≡ true → bit_xor (op (bit_xor x m) (bit_xor y m)) m ≡ other x y)
    → (n a b : ℕ) → a < 2 ^ (n + n) → b < 2 ^ (n + n)
    → bit_xor (op (bit_xor a (lowest n)) (bit_xor b (lowest n))) (lowest n)
    ≡ label n (other (integrity n a) (integrity n b)) (op (confidentiality n a) (confidentiality n b))
whole_op op other half rest turn n a b h k =
    let x = op (bit_xor a (lowest n)) (bit_xor b (lowest n)) in
    let i : integrity n x ≡ op (bit_xor (integrity n a) (2 ^ n - 1)) (bit_xor (integrity n b) (2 ^ n - 1)) =
    integrity_op op half n (bit_xor a (lowest n)) (bit_xor b (lowest n))
    ∙ ap₂ op (integrity_turned n a) (integrity_turned n b) in
    let c : confidentiality n x ≡ op (confidentiality n a) (confidentiality n b) =
    confidentiality_op op rest n (bit_xor a (lowest n)) (bit_xor b (lowest n))
    ∙ ap₂ op (confidentiality_kept n a) (confidentiality_kept n b) in
    sym (label_halves n (bit_xor x (lowest n)))
    ∙ ap₂ (label n)
    (integrity_turned n x
    ∙ ap (λ (y : ℕ). bit_xor y (2 ^ n - 1)) i
    ∙ turn (2 ^ n - 1) (integrity n a) (integrity n b) (subset_all n (integrity n a) (integrity_lt n a h))
    (subset_all n (integrity n b) (integrity_lt n b k)))
    (confidentiality_kept n x ∙ c)

-- The join: the restrictions of both labels.
pub whole_join : (n a b : ℕ) → a < 2 ^ (n + n) → b < 2 ^ (n + n)
    → bit_xor (bit_or (bit_xor a (lowest n)) (bit_xor b (lowest n))) (lowest n) ≡ join n a b
unfolding join
whole_join = whole_op bit_or bit_and or_shr or_mod lacked_by_neither

-- The meet: the restrictions that both labels have.
pub whole_meet : (n a b : ℕ) → a < 2 ^ (n + n) → b < 2 ^ (n + n)
    → bit_xor (bit_and (bit_xor a (lowest n)) (bit_xor b (lowest n))) (lowest n) ≡ meet n a b
unfolding meet
whole_meet = whole_op bit_and bit_or and_shr and_mod lacked_by_both

-- ---- flow

-- Two labels are equal exactly when their halves are.
eqb_label : (n i c j d : ℕ) → c < 2 ^ n → d < 2 ^ n → eqb (label n i c) (label n j d) ≡ (eqb i j && eqb c d)
eqb_label n i c j d h k =
    same_truth (eqb (label n i c) (label n j d)) (eqb i j && eqb c d)
    (λ e. let q = eqb-true (label n i c) (label n j d) e in
    rw (eq-eqb i j (sym (integrity_label n i c h) ∙ ap (integrity n) q ∙ integrity_label n j d k))
    (eq-eqb c d (sym (confidentiality_label n i c h) ∙ ap (confidentiality n) q ∙ confidentiality_label n j d k)))
    (λ e. let q = (and-eq-true_iff (eqb i j) (eqb c d)).0 e in
    eq-eqb (label n i c) (label n j d) (ap₂ (label n) (eqb-true i j q.0) (eqb-true c d q.1)))

-- No restriction in either half is none at all.
no_restriction : (n : ℕ) → 0 ≡ label n 0 0
unfolding label
no_restriction n = omega arith

-- Flow: the first label has no restriction that the second lacks.
pub whole_flows : (n a b : ℕ) → b < 2 ^ (n + n) → eqb (bit_and (bit_xor a (lowest n)) (bit_xor b (highest n))) 0 ≡ flows n a b
unfolding flows
whole_flows n a b h =
    let x = bit_and (bit_xor a (lowest n)) (bit_xor b (highest n)) in
    let i : integrity n x ≡ bit_and (bit_xor (integrity n a) (2 ^ n - 1)) (integrity n b) =
    integrity_op bit_and and_shr n (bit_xor a (lowest n)) (bit_xor b (highest n))
    ∙ ap₂ bit_and (integrity_turned n a) (integrity_kept n b) in
    let c : confidentiality n x ≡ bit_and (bit_xor (confidentiality n b) (2 ^ n - 1)) (confidentiality n a) =
    confidentiality_op bit_and and_mod n (bit_xor a (lowest n)) (bit_xor b (highest n))
    ∙ ap₂ bit_and (confidentiality_kept n a) (confidentiality_turned n b)
    ∙ and_comm (confidentiality n a) (bit_xor (confidentiality n b) (2 ^ n - 1)) in
    ap₂ eqb (sym (label_halves n x)) (no_restriction n)
    ∙ eqb_label n (integrity n x) (confidentiality n x) 0 0 (confidentiality_lt n x) (pow_pos n)
    ∙ ap₂ (λ (u v : ℕ). eqb u 0 && eqb v 0) i c
    ∙ ap₂ ◌&&◌ (without (2 ^ n - 1) (integrity n b) (integrity n a) (subset_all n (integrity n b) (integrity_lt n b h)))
    (without (2 ^ n - 1) (confidentiality n a) (confidentiality n b) (subset_all n (confidentiality n a) (confidentiality_lt n a)))

-- The same of restrictions by name.
pub restricted_flows : (n a b : ℕ) → b < 2 ^ (n + n) → may_go (restrictions n a) (lacking n b) ≡ flows n a b
unfolding may_go restrictions lacking
restricted_flows = whole_flows

-- What is under the restrictions of both may go where each may.
pub or_may_go : (x y z : ℕ) → may_go (bit_or x y) z ≡ (may_go x z && may_go y z)
unfolding may_go
or_may_go = apart_or
