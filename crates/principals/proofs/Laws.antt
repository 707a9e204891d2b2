-- The laws of labels over any number n of principals: flow is an order with join, meet, a lowest and a highest label,
-- reflection turns it round, what the rules for raising and relabelling allow, and what is trusted and secret.
-- Assumes nothing.
use Prim.Native.Nat.{ℕ, ◌+◌, ◌-◌, ◌^◌, ◌<◌}
use mathlib.Core.Path.{◌≡◌, refl, sym, ap₂, ◌∙◌}
use mathlib.Core.Bool.{Bool, true, false, not, ◌&&◌, and-false, and_comm, and_self, and-eq-true_iff}
use native.Mathlib.Nat.{mod-lt, mod-eq_of_lt}
use lib.Arith.{digits_lt}
use lib.Bits.{bit_and, bit_or, and_lt, or_lt, and_mask}
use lib.Pow.{pow_pos, pow-add, split, high, low, shr_lt, ones_lt}
use borrow.Author.Tests.{eq-eqb, not-true}
use Rattle.principals.specs.Principals.{subset, label, integrity, confidentiality, flows, join, meet, reflection, uncompromised, valid_pair, lowest, highest, may_raise, may_relabel, trusted, secret}
use Rattle.principals.proofs.Subset.{same_truth, subset_refl, subset_trans, subset_antisym, subset_and, subset_or}

-- l flows to m.
pub record Flows (n l m : ℕ) : Type 0 where
  pub holds : flows n l m ≡ true

-- ---- the halves of a label

-- A label's confidentiality is a set of n principals.
pub confidentiality_lt : (n l : ℕ) → confidentiality n l < 2 ^ n
unfolding confidentiality
confidentiality_lt n l = mod-lt l (pow_pos n)

-- The integrity of a label over n principals is a set of n principals.
pub integrity_lt : (n l : ℕ) → l < 2 ^ (n + n) → integrity n l < 2 ^ n
unfolding integrity
integrity_lt n l h = shr_lt n n h

-- Two sets of n principals make a label.
label_lt : (n i c : ℕ) → i < 2 ^ n → c < 2 ^ n → label n i c < 2 ^ (n + n)
unfolding label
label_lt n i c h k = rw pow-add (digits_lt h k)

-- The integrity of a label made of i and c is i.
pub integrity_label : (n i c : ℕ) → c < 2 ^ n → integrity n (label n i c) ≡ i
unfolding integrity label
integrity_label n i c h = high i n h

-- The confidentiality of a label made of i and c is c.
pub confidentiality_label : (n i c : ℕ) → c < 2 ^ n → confidentiality n (label n i c) ≡ c
unfolding confidentiality label
confidentiality_label n i c h = low i n h

-- A label is made of its halves.
pub label_halves : (n l : ℕ) → label n (integrity n l) (confidentiality n l) ≡ l
unfolding label integrity confidentiality
label_halves n l = split l n

-- ---- flow from a join and to a meet

-- The middle two of four tests may change places.
exchange : (a b c d : Bool) → (a && b && (c && d)) ≡ (a && c && (b && d))
exchange true true c d = refl
exchange true false c d = rw and-false
exchange false b c d = refl

-- The confidentialities of a join and of a meet are sets of n principals.
both_lt : (n a b : ℕ) → (bit_or (confidentiality n a) (confidentiality n b) < 2 ^ n)
    × (bit_and (confidentiality n a) (confidentiality n b) < 2 ^ n)
both_lt n a b =
    let h = confidentiality_lt n a in
    let k = confidentiality_lt n b in
    (or_lt n (confidentiality n a) (confidentiality n b) h k, and_lt n (confidentiality n a) (confidentiality n b) h k)

-- A join flows to c exactly when both its parts do.
pub join_flows : (n a b c : ℕ) → flows n (join n a b) c ≡ (flows n a c && flows n b c)
unfolding join flows
join_flows n a b c =
    let (h, k) = both_lt n a b in
    rw (
      integrity_label,
      confidentiality_label,
      subset_and,
      subset_or,
      exchange (subset (integrity n c) (integrity n a)) (subset (integrity n c) (integrity n b)),
    )

-- A label flows to a meet exactly when it flows to both parts.
pub flows_meet : (n a b c : ℕ) → flows n c (meet n a b) ≡ (flows n c a && flows n c b)
unfolding meet flows
flows_meet n a b c =
    let (h, k) = both_lt n a b in
    rw (
      integrity_label,
      confidentiality_label,
      subset_or,
      subset_and,
      exchange (subset (integrity n a) (integrity n c)) (subset (integrity n b) (integrity n c)),
    )

-- ---- flow is an order

-- Flow, half by half.
halves : {n l m : ℕ} → Flows n l m
    → (subset (integrity n m) (integrity n l) ≡ true) × (subset (confidentiality n l) (confidentiality n m) ≡ true)
unfolding flows
halves {n} {l} {m} p =
    (and-eq-true_iff (subset (integrity n m) (integrity n l)) (subset (confidentiality n l) (confidentiality n m))).0 p.holds

-- Every label flows to itself.
pub flows_refl : (n l : ℕ) → Flows n l l
unfolding flows
flows_refl n l = record { holds = simp subset_refl }

-- What flows on flows all the way.
pub flows_trans : {n a b c : ℕ} → Flows n a b → Flows n b c → Flows n a c
unfolding flows
flows_trans {n} {a} {b} {c} p q =
    record {
      holds =
          rw (
            subset_trans (integrity n c) (integrity n b) (integrity n a) (halves q).0 (halves p).0,
            subset_trans (confidentiality n a) (confidentiality n b) (confidentiality n c) (halves p).1 (halves q).1,
          );
    }

-- Labels that flow to each other are one.
pub flows_antisym : {n a b : ℕ} → Flows n a b → Flows n b a → a ≡ b
flows_antisym {n} {a} {b} p q =
    sym (label_halves n a)
    ∙ ap₂ (label n) (subset_antisym (integrity n a) (integrity n b) (halves q).0 (halves p).0)
    (subset_antisym (confidentiality n a) (confidentiality n b) (halves p).1 (halves q).1)
    ∙ label_halves n b

-- What flows from outside ends outside.
pub not_flows : {n a b : ℕ} (c : ℕ) → Flows n a b → flows n a c ≡ false → flows n b c ≡ false
not_flows {n} {a} {b} c p e =
    same_truth (flows n b c) false (λ h. sym e ∙ (flows_trans p (record { holds = h })).holds) (λ h. cc)

-- ---- join and meet

-- The two parts of a conjunction of flows.
parts : (n a b c d : ℕ) → (flows n a b && flows n c d) ≡ true → Flows n a b × Flows n c d
parts n a b c d e =
    let p = (and-eq-true_iff (flows n a b) (flows n c d)).0 e in
    (record { holds = p.0 }, record { holds = p.1 })

-- A join is above both its parts.
join_upper : (n a b : ℕ) → Flows n a (join n a b) × Flows n b (join n a b)
join_upper n a b =
    parts n a (join n a b) b (join n a b) (sym (join_flows n a b (join n a b)) ∙ (flows_refl n (join n a b)).holds)

-- The first part of a join flows to it.
pub join_upper_left : (n a b : ℕ) → Flows n a (join n a b)
join_upper_left n a b = (join_upper n a b).0

-- The second part of a join flows to it.
pub join_upper_right : (n a b : ℕ) → Flows n b (join n a b)
join_upper_right n a b = (join_upper n a b).1

-- A join flows wherever both its parts do.
pub join_least : {n a b c : ℕ} → Flows n a c → Flows n b c → Flows n (join n a b) c
join_least p q = record { holds = rw (join_flows, p.holds, q.holds) }

-- A meet is below both its parts.
meet_lower : (n a b : ℕ) → Flows n (meet n a b) a × Flows n (meet n a b) b
meet_lower n a b =
    parts n (meet n a b) a (meet n a b) b (sym (flows_meet n a b (meet n a b)) ∙ (flows_refl n (meet n a b)).holds)

-- A meet flows to its first part.
pub meet_lower_left : (n a b : ℕ) → Flows n (meet n a b) a
meet_lower_left n a b = (meet_lower n a b).0

-- A meet flows to its second part.
pub meet_lower_right : (n a b : ℕ) → Flows n (meet n a b) b
meet_lower_right n a b = (meet_lower n a b).1

-- What flows to both parts flows to their meet.
pub meet_greatest : {n a b c : ℕ} → Flows n c a → Flows n c b → Flows n c (meet n a b)
meet_greatest p q = record { holds = rw (flows_meet, p.holds, q.holds) }

-- ---- the lowest and the highest label

-- Every set of n principals is a subset of the set of all n.
pub subset_all : (n x : ℕ) → x < 2 ^ n → subset x (2 ^ n - 1) ≡ true
unfolding subset
subset_all n x h = eq-eqb (bit_and x (2 ^ n - 1)) x (and_mask x n ∙ mod-eq_of_lt h)

-- The empty set is a subset of every set.
subset_none : (x : ℕ) → subset 0 x ≡ true
unfolding subset
subset_none x = refl

-- The lowest label flows to every label.
pub lowest_flows : (n l : ℕ) → l < 2 ^ (n + n) → Flows n (lowest n) l
unfolding lowest flows
lowest_flows n l h =
    let k = pow_pos n in
    record { holds = rw (integrity_label, confidentiality_label, subset_all n (integrity n l) (integrity_lt n l h), subset_none) }

-- Every label flows to the highest.
pub flows_highest : (n l : ℕ) → Flows n l (highest n)
unfolding highest flows
flows_highest n l =
    let k = ones_lt n in
    record { holds = rw (integrity_label, confidentiality_label, subset_none, subset_all n (confidentiality n l) (confidentiality_lt n l)) }

-- ---- reflection

-- Reflection puts the confidentiality where the integrity was.
integrity_reflection : (n l : ℕ) → l < 2 ^ (n + n) → integrity n (reflection n l) ≡ confidentiality n l
unfolding reflection
integrity_reflection n l h = integrity_label n (confidentiality n l) (integrity n l) (integrity_lt n l h)

-- Reflection puts the integrity where the confidentiality was.
confidentiality_reflection : (n l : ℕ) → l < 2 ^ (n + n) → confidentiality n (reflection n l) ≡ integrity n l
unfolding reflection
confidentiality_reflection n l h = confidentiality_label n (confidentiality n l) (integrity n l) (integrity_lt n l h)

-- A label reflected twice is itself.
pub reflection_reflection : (n l : ℕ) → l < 2 ^ (n + n) → reflection n (reflection n l) ≡ l
reflection_reflection n l h =
    unfold reflection in ap₂ (label n) (confidentiality_reflection n l h) (integrity_reflection n l h) ∙ label_halves n l

-- Reflection turns flow round.
pub reflection_flows : (n a b : ℕ) → a < 2 ^ (n + n) → b < 2 ^ (n + n) → flows n (reflection n a) (reflection n b) ≡ flows n b a
unfolding flows
reflection_flows n a b h k =
    rw (integrity_reflection n a h, integrity_reflection n b k, confidentiality_reflection n a h, confidentiality_reflection n b k)
    (and_comm (subset (confidentiality n b) (confidentiality n a)) (subset (integrity n a) (integrity n b)))

-- A label is sound exactly when it flows to its reflection.
pub uncompromised_flows : (n l : ℕ) → l < 2 ^ (n + n) → uncompromised n l ≡ flows n l (reflection n l)
unfolding flows uncompromised
uncompromised_flows n l h =
    rw (integrity_reflection n l h, confidentiality_reflection n l h)
    (sym (and_self (subset (confidentiality n l) (integrity n l))))

-- ---- the rules

-- The parts of a rule, which is a conjunction of three tests.
three : (a b c : Bool) → (a && b && c) ≡ true → (a ≡ true) × (b ≡ true) × (c ≡ true)
three a b c e =
    let p = (and-eq-true_iff (a && b) c).0 e in
    let q = (and-eq-true_iff a b).0 p.0 in
    (q.0, q.1, p.1)

-- A raise under p starts above p, goes up, and ends below the reflection of p.
pub raise_parts : (n p l m : ℕ) → may_raise n p l m ≡ true → Flows n p l × Flows n l m × Flows n m (reflection n p)
unfolding may_raise
raise_parts n p l m e =
    let q = three (flows n p l) (flows n l m) (flows n m (reflection n p)) e in
    (record { holds = q.0 }, record { holds = q.1 }, record { holds = q.2 })

-- What may be raised under p is above p.
pub raise_flows_old : (n p l m : ℕ) → may_raise n p l m ≡ true → Flows n p l
raise_flows_old n p l m e = (raise_parts n p l m e).0

-- What is raised goes up.
pub raise_rises : (n p l m : ℕ) → may_raise n p l m ≡ true → Flows n l m
raise_rises n p l m e = (raise_parts n p l m e).1

-- What was raised under p is above p.
pub raise_flows_new : (n p l m : ℕ) → may_raise n p l m ≡ true → Flows n p m
raise_flows_new n p l m e = flows_trans (raise_flows_old n p l m e) (raise_rises n p l m e)

-- Relabelling down is allowed exactly when p flows to the new label and the old one is sound.
pub relabel_down : (n p l m : ℕ) → p < 2 ^ (n + n) → l < 2 ^ (n + n) → m < 2 ^ (n + n) → Flows n m l
    → may_relabel n p l m ≡ (flows n p m && uncompromised n l)
unfolding may_relabel
relabel_down n p l m hp hl hm d = rw flows_meet (by_cases (flows n p m) (uncompromised n l) refl refl)
  where
    -- m flows to l, l to its reflection, that to the reflection of m, and that to the reflection of p.
    bounded : Flows n p m → uncompromised n l ≡ true → Flows n m (reflection n p)
    bounded f s =
        let up : Flows n l (reflection n l) = record { holds = sym (uncompromised_flows n l hl) ∙ s } in
        let back : Flows n (reflection n l) (reflection n m) = record { holds = reflection_flows n l m hl hm ∙ d.holds } in
        let top : Flows n (reflection n m) (reflection n p) = record { holds = reflection_flows n m p hm hp ∙ f.holds } in
        flows_trans (flows_trans d up) (flows_trans back top)

    -- Where either test fails both sides are false.
    by_cases : (x y : Bool) → flows n p m ≡ x → uncompromised n l ≡ y
        → (flows n p l && x && y && flows n m (reflection n p)) ≡ (x && y)
    by_cases true true f s =
        let q : Flows n p m = record { holds = f } in rw ((flows_trans q d).holds, (bounded q s).holds)
    by_cases true false f s = rw and-false
    by_cases false y f s = rw and-false

-- Both labels of a relabelling under p are above p.
relabel_flows : (n p l m : ℕ) → may_relabel n p l m ≡ true → Flows n p l × Flows n p m
unfolding may_relabel
relabel_flows n p l m e =
    parts n p l p m (sym (flows_meet n l m p) ∙ (three (flows n p (meet n l m)) (uncompromised n l) (flows n m (reflection n p)) e).0)

-- What may be relabelled under p is above p.
pub relabel_flows_old : (n p l m : ℕ) → may_relabel n p l m ≡ true → Flows n p l
relabel_flows_old n p l m e = (relabel_flows n p l m e).0

-- What was relabelled under p is above p.
pub relabel_flows_new : (n p l m : ℕ) → may_relabel n p l m ≡ true → Flows n p m
relabel_flows_new n p l m e = (relabel_flows n p l m e).1

-- What was relabelled under p is below the reflection of p.
pub relabel_reflected : (n p l m : ℕ) → may_relabel n p l m ≡ true → Flows n m (reflection n p)
unfolding may_relabel
relabel_reflected n p l m e =
    record { holds = (three (flows n p (meet n l m)) (uncompromised n l) (flows n m (reflection n p)) e).2 }

-- What may be relabelled is sound.
pub relabel_uncompromised : (n p l m : ℕ) → may_relabel n p l m ≡ true → uncompromised n l ≡ true
unfolding may_relabel
relabel_uncompromised n p l m e = (three (flows n p (meet n l m)) (uncompromised n l) (flows n m (reflection n p)) e).1

-- The parts of a valid pair.
valid_parts : (n p t : ℕ) → valid_pair n p t ≡ true → (flows n p t ≡ true) × (uncompromised n p ≡ true) × (uncompromised n t ≡ true)
unfolding valid_pair
valid_parts n p t = three (flows n p t) (uncompromised n p) (uncompromised n t)

-- In a valid pair the pc label flows to the timing label.
pub valid_flows : (n p t : ℕ) → valid_pair n p t ≡ true → Flows n p t
valid_flows n p t e = record { holds = (valid_parts n p t e).0 }

-- The pc label of a valid pair is sound.
pub valid_uncompromised_pc : (n p t : ℕ) → valid_pair n p t ≡ true → uncompromised n p ≡ true
valid_uncompromised_pc n p t e = (valid_parts n p t e).1

-- The timing label of a valid pair is sound.
pub valid_uncompromised_timing : (n p t : ℕ) → valid_pair n p t ≡ true → uncompromised n t ≡ true
valid_uncompromised_timing n p t e = (valid_parts n p t e).2

-- ---- what is trusted, and what is secret

-- What a set that isn't within j trusts is trusted: the set lies within its i.
trusted_by : (n j s l : ℕ) → subset s j ≡ false → subset s (integrity n l) ≡ true → trusted n j l ≡ true
unfolding trusted
trusted_by n j s l o h = go (subset (integrity n l) j) refl
  where
    go : (b : Bool) → subset (integrity n l) j ≡ b → not b ≡ true
    go true k = sym o ∙ subset_trans s (integrity n l) j h k
    go false k = refl

-- What flows to something trusted is trusted.
pub trusted_below : {n l m : ℕ} (j : ℕ) → Flows n l m → trusted n j m ≡ true → trusted n j l ≡ true
unfolding trusted
trusted_below {n} {l} {m} j f e = trusted_by n j (integrity n m) l (not-true (subset (integrity n m) j) e) (halves f).0

-- What something secret flows to is secret.
pub secret_above : {n l m : ℕ} (s : ℕ) → Flows n l m → secret n s l ≡ true → secret n s m ≡ true
unfolding secret
secret_above {n} {l} {m} s f e = subset_trans s (confidentiality n l) (confidentiality n m) e (halves f).1

-- A sound label that is secret to s is trusted, where s isn't within j: s lies within its c, and that within its i.
pub secret_trusted : (n j s l : ℕ) → subset s j ≡ false → uncompromised n l ≡ true → secret n s l ≡ true → trusted n j l ≡ true
unfolding secret uncompromised
secret_trusted n j s l o u e = trusted_by n j s l o (subset_trans s (confidentiality n l) (integrity n l) e u)

-- ---- bounds

-- A join of labels is a label.
pub join_lt : (n a b : ℕ) → a < 2 ^ (n + n) → b < 2 ^ (n + n) → join n a b < 2 ^ (n + n)
unfolding join
join_lt n a b h k =
    label_lt n (bit_and (integrity n a) (integrity n b)) (bit_or (confidentiality n a) (confidentiality n b))
    (and_lt n (integrity n a) (integrity n b) (integrity_lt n a h) (integrity_lt n b k)) (both_lt n a b).0

-- A meet of labels is a label.
pub meet_lt : (n a b : ℕ) → a < 2 ^ (n + n) → b < 2 ^ (n + n) → meet n a b < 2 ^ (n + n)
unfolding meet
meet_lt n a b h k =
    label_lt n (bit_or (integrity n a) (integrity n b)) (bit_and (confidentiality n a) (confidentiality n b))
    (or_lt n (integrity n a) (integrity n b) (integrity_lt n a h) (integrity_lt n b k)) (both_lt n a b).1

-- The reflection of a label is a label.
pub reflection_lt : (n l : ℕ) → l < 2 ^ (n + n) → reflection n l < 2 ^ (n + n)
unfolding reflection
reflection_lt n l h = label_lt n (confidentiality n l) (integrity n l) (confidentiality_lt n l) (integrity_lt n l h)

-- The lowest label is a label.
pub lowest_lt : (n : ℕ) → lowest n < 2 ^ (n + n)
unfolding lowest
lowest_lt n = label_lt n (2 ^ n - 1) 0 (ones_lt n) (pow_pos n)

-- The highest label is a label.
pub highest_lt : (n : ℕ) → highest n < 2 ^ (n + n)
unfolding highest
highest_lt n = label_lt n 0 (2 ^ n - 1) (pow_pos n) (ones_lt n)
