-- A turn of the loop over entries: which entry of the bank it is.
-- Assumes nothing.
use Rattle.std.proofs.Common.{ℕ, ◌+◌, ◌<◌, ◌≡◌, List, length, get_or, ap, ◌∙◌, arith}
use Rattle.std.specs.List.{enumerate_from, zip}
use Rattle.std.proofs.lemmas.List.FromFn.{length-enumerate_from, get_or-enumerate_from}
use Rattle.std.proofs.lemmas.Slice.Zip.{length-zip, get_or-zip}
use native.Mathlib.Nat.{zero-add}
use Rattle.std.proofs.lemmas.List.{get_or_read}

-- The item behind k items, of numbers that go with pairs of a value and a label.
pub turned : (vs ls : List ℕ) (k number value label : ℕ) → length ls ≡ length vs → (k < length (enumerate_from 0 (zip vs ls)))
    × ((number, (value, label)) ≡ get_or (enumerate_from 0 (zip vs ls)) k (number, (value, label)))
    → (k < length vs) × (number ≡ k) × (value ≡ get_or vs k 0) × (label ≡ get_or ls k 0)
turned vs ls k number value label same h =
    let n = length-enumerate_from 0 (zip vs ls) in
    let z = length-zip vs ls in
    let v : k < length vs = omega (arith, h.0, n, z) in
    let l : k < length ls = omega arith in
    let e =
    h.1 ∙ get_or-enumerate_from 0 (zip vs ls) k (number, (value, label)) (omega (arith, h.0, n))
    ∙ ap (λ (p : ℕ × ℕ). (0 + k, p)) (get_or-zip vs ls k (value, label) v l) in (
      v,
      ap (λ (p : ℕ × (ℕ × ℕ)). p.0) e ∙ zero-add k,
      get_or_read vs k value v (ap (λ (p : ℕ × (ℕ × ℕ)). p.1.0) e) 0,
      get_or_read ls k label l (ap (λ (p : ℕ × (ℕ × ℕ)). p.1.1) e) 0,
    )
