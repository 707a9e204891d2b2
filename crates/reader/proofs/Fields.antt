-- What the loop over the fields keeps: fields read one by one, each number put to its place.
-- Assumes nothing.
use Rattle.std.proofs.Common.{ℕ, zero, suc, ◌+◌, ◌-◌, ◌<◌, ◌≤◌, ◌≡◌, Some, None, List, length, take, drop, set, refl, add-one, arith, length-set}
use lib.Seq.{take-suc-set}
use native.Mathlib.Nat.{zero-add, suc-add}
use Rattle.model.specs.declared.format.Number.{Number}
use Rattle.model.specs.Text.{field, read_fields}
use Rattle.texts.proofs.Text.{field_behind}

-- Of a text i fields are read, in `at` bytes: their numbers are the first i of ns.
pub record FieldsRead (xs ns : List ℕ) (at i : ℕ) : Type 0 where
  pub few : i ≤ length ns
  pub within : at ≤ length xs
  pub read : read_fields i xs ≡ Some (record { numbers = take i ns; bytes = at })

-- None is read.
pub fields_none : (xs ns : List ℕ) → FieldsRead xs ns 0 0
unfolding read_fields
fields_none xs ns = record { few = omega arith; within = omega arith; read = refl }

module _ (xs ns : List ℕ) (at i : ℕ) (r : FieldsRead xs ns at i) where
  -- One more is read.
  pub fields_more : (n : Number) → i < length ns → field (drop at xs) ≡ Some n
      → FieldsRead xs (set ns i n.value) (at + n.length) (i + 1)
  unfolding read_fields
  fields_more n h e =
      record {
        few = simp length-set (omega arith);
        within = field_behind xs at n r.within e;
        read = rw (add-one, r.read, e, take-suc-set ns i n.value h);
      }

  -- The next one is bad, and so are any that reach so far.
  bad_behind : (n : ℕ) → field (drop at xs) ≡ None → read_fields (suc n + i) xs ≡ None
  unfolding read_fields
  bad_behind zero e = rw (suc-add, zero-add, r.read, e)
  bad_behind (suc n) e = rw (suc-add (suc n) i, bad_behind n e)

  pub fields_bad : (n : ℕ) → i < n → field (drop at xs) ≡ None → read_fields n xs ≡ None
  fields_bad n h e = let q : suc (n - suc i) + i ≡ n = omega arith in rw q at (bad_behind (n - suc i) e)
