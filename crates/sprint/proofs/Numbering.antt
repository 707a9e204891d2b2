-- Laws about the numbers of ops: those that are no common op's, and the op of a fetched word.
-- Assumes nothing.
use Rattle.std.proofs.Common.{◌≡◌, ℕ, zero, suc, ◌+◌, ◌<◌, ◌≤◌, true, false, ltb, List, [], ◌∷◌, length, take, drop, sym, refl, ap, ◌∙◌, ⊎_elim, arith, ltb-false, ltb-true}
use mathlib.Core.Option.{none, some}
use lib.ListN.{get_elem?}
use Rattle.model.specs.Word.{Op, ops, op_field, decode}
use Rattle.model.specs.Step.{Fetched, fetched, known}
use Rattle.model.proofs.Truth.{either}
use Rattle.parts.specs.Stages.{is_common_op, fetches_common}

-- ---- numbers that a `match` leaves for its last arm

-- It is none of the k numbers from m on.
abbrev pub NoneFrom : ℕ → ℕ → ℕ → Type 0
NoneFrom m zero n = Unit {0}
NoneFrom m (suc k) n = NoneFrom m k n × (n ≡ m + k → ⊥)

-- What is at least m and none of the k numbers from there on is behind them all.
behind : (m k : ℕ) {n : ℕ} → m ≤ n → NoneFrom m k n → m + k ≤ n
behind m zero l h = omega arith
behind m (suc k) l h = let r = behind m k l h.0 in omega (arith, r, h.1)

-- ---- the numbers of common ops

-- Past the end of a list there is nothing.
past_end {ℓ} : {A : Type ℓ} (k : ℕ) (xs : List A) → length xs ≤ k → get_elem? xs k ≡ none
past_end zero [] l = refl
past_end (suc k) [] l = refl
past_end zero (x ∷ xs) l = absurd (omega arith)
past_end (suc k) (x ∷ xs) l = past_end k xs (omega arith)

-- A number past the last op is no op's.
past_ops : (n : ℕ) → 24 < n → decode n ≡ none
unfolding decode
past_ops zero l = refl
past_ops (suc n) l = past_end n ops (omega arith)

-- None of these ops is a common one.
abbrev NoneCommon : List Op → Type 0
NoneCommon [] = Unit {0}
NoneCommon (op ∷ more) = (is_common_op op ≡ false) × NoneCommon more

-- One of the first m ops of a list, none of which is common.
first_uncommon : (w m k : ℕ) (xs : List Op) → k < m → NoneCommon (take m xs) → fetches_common (known w (get_elem? xs k)) ≡ false
first_uncommon w zero k xs l h = absurd (omega arith)
first_uncommon w (suc m) zero [] l h = refl
first_uncommon w (suc m) (suc k) [] l h = refl
first_uncommon w (suc m) zero (op ∷ xs) l h = h.0
first_uncommon w (suc m) (suc k) (op ∷ xs) l h = first_uncommon w m k xs (omega arith) h.1

-- One of the m ops behind the first n.
behind_uncommon : (w n m k : ℕ) (xs : List Op) → n ≤ k → k < n + m → NoneCommon (take m (drop n xs))
    → fetches_common (known w (get_elem? xs k)) ≡ false
behind_uncommon w zero m k xs l u h = first_uncommon w m k xs (omega arith) h
behind_uncommon w (suc n) m zero xs l u h = absurd (omega arith)
behind_uncommon w (suc n) m (suc k) [] l u h = refl
behind_uncommon w (suc n) m (suc k) (op ∷ xs) l u h = behind_uncommon w n m k xs (omega arith) (omega arith) h

-- A number above 14 that is neither 23 nor 24 has no common op.
above_uncommon : (w n : ℕ) → 14 < n → (n ≡ 23 → ⊥) → (n ≡ 24 → ⊥) → fetches_common (known w (decode n)) ≡ false
unfolding decode
above_uncommon w zero h d e = refl
above_uncommon w (suc n) h d e =
    ⊎_elim
    (λ (b : ltb (suc n) 23 ≡ true).
    let l : suc n < 23 = ltb-true (suc n) 23 b in
    behind_uncommon w 14 8 n ops (omega arith) (omega arith) (refl, (refl, (refl, (refl, (refl, (refl, (refl, (refl, tt)))))))))
    (λ (b : ltb (suc n) 23 ≡ false).
    let l : 23 ≤ suc n = ltb-false (suc n) 23 b in
    rw (past_ops (suc n) (omega (arith, l, d, e))))
    (either (ltb (suc n) 23))

-- A number that is none of 0 to 14, 23 and 24 has no common op.
pub uncommon : {n : ℕ} (w : ℕ) → n ≡ op_field w → (NoneFrom 0 15 n × (n ≡ 23 → ⊥)) × (n ≡ 24 → ⊥)
    → fetches_common (known w (decode (op_field w))) ≡ false
uncommon {n} w q h = rw (← q) (above_uncommon w n (behind 0 15 (omega arith) h.0.0) h.0.1 h.1)

-- ---- the op of a fetched word

-- A word without an op is fetched as well as one in which nothing else stands.
pub no_op : {f : Fetched} {n : ℕ} (w : ℕ) → f ≡ known w (decode (op_field w)) → n ≡ op_field w → n ≡ 0
    → f ≡ known 0 (decode (op_field 0))
unfolding decode op_field
no_op w f q e = f ∙ ap (λ (k : ℕ). known w (decode k)) (sym q ∙ e)

-- And that is no common op.
pub none_uncommon : fetches_common (known 0 (decode (op_field 0))) ≡ false
unfolding decode op_field
none_uncommon = refl

-- A word whose op's number is known.
pub op_of : {f : Fetched} {op : Op} {n k : ℕ} (w : ℕ) → f ≡ known w (decode (op_field w)) → n ≡ op_field w → n ≡ k
    → decode k ≡ some op → f ≡ fetched w op
op_of w f q e d = f ∙ ap (λ (m : ℕ). known w (decode m)) (sym q ∙ e) ∙ ap (known w) d
