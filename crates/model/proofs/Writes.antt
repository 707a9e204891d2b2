-- What a write leaves: the record but for one value or label, the lengths, and every other location.
-- Assumes nothing.
use Prim.Native.Nat.{ℕ, ◌<◌}
use mathlib.Core.Path.{◌≡◌, refl, sym, subst}
use mathlib.Core.Logic.{⊎_elim}
use mathlib.Core.Bool.{Bool, false, cond}
use mathlib.Core.List.{List}
use native.Mathlib.Omega.{arith}
use lib.Dec.{eqb}
use lib.ListN.{get_or, set, length, length-set}
use lib.Seq.{get_or-set_same, get_or-set_other}
use borrow.Author.Tests.{eqb-true, eqb-false}
use Rattle.model.specs.Numbers.{zero_register}
use Rattle.model.specs.Record.{State, Location, register, word, bank_of, index_of, value_at, label_at}
use Rattle.model.specs.Ops.{Write, nothing, value, label}
use Rattle.model.specs.Step.{written}
use Rattle.model.proofs.Truth.{either}

-- Two locations are one.
abbrev pub same : Location → Location → Bool
same (register j) (register k) = eqb j k
same (register j) (word k) = false
same (word j) (register k) = false
same (word j) (word k) = eqb j k

-- A location that is there: its number is below the lengths of the lists where it lies.
pub record There (s : State) (x : Location) : Type 0 where
  pub value : index_of x < length (bank_of s x).values
  pub label : index_of x < length (bank_of s x).labels

-- What stands at j in a list with v set at i.
pub set_at : {A : Type 0} (d : A) (xs : List A) (i j : ℕ) (v : A) → i < length xs
    → get_or (set xs i v) j d ≡ cond (eqb i j) v (get_or xs j d)
set_at d xs i j v h =
    ⊎_elim
    (λ e. rw e (subst (λ (k : ℕ). get_or (set xs i v) k d ≡ v) (eqb-true i j e) (get_or-set_same xs i v d h)))
    (λ e. rw e (get_or-set_other xs i j v d (λ q. eqb-false i j e (sym q))))
    (either (eqb i j))

-- Where another number than register 0's is set, that one stays.
pub zero_left : (xs : List ℕ) (k v : ℕ) → zero_register < k → get_or (set xs k v) zero_register 0 ≡ get_or xs zero_register 0
zero_left xs k v h = get_or-set_other xs k zero_register v 0 (λ q. omega (arith, h, q))

-- A value that is set stands at its location alone.
pub value_after_value : (s : State) (x y : Location) (v : ℕ) → There s x
    → value_at (written s (value x v)) y ≡ cond (same x y) v (value_at s y)
unfolding value_at written
value_after_value s (register j) (register k) v h = set_at 0 s.registers.values j k v h.value
value_after_value s (register j) (word k) v h = refl
value_after_value s (word j) (register k) v h = refl
value_after_value s (word j) (word k) v h = set_at 0 s.memory.values j k v h.value

-- A label that is set stands at its location alone.
pub label_after_label : (s : State) (x y : Location) (l : ℕ) → There s x
    → label_at (written s (label x l)) y ≡ cond (same x y) l (label_at s y)
unfolding label_at written
label_after_label s (register j) (register k) l h = set_at 0 s.registers.labels j k l h.label
label_after_label s (register j) (word k) l h = refl
label_after_label s (word j) (register k) l h = refl
label_after_label s (word j) (word k) l h = set_at 0 s.memory.labels j k l h.label

-- A value that is set leaves every label.
pub label_after_value : (s : State) (x y : Location) (v : ℕ) → label_at (written s (value x v)) y ≡ label_at s y
unfolding label_at written
label_after_value s (register j) (register k) v = refl
label_after_value s (register j) (word k) v = refl
label_after_value s (word j) (register k) v = refl
label_after_value s (word j) (word k) v = refl

-- A label that is set leaves every value.
pub value_after_label : (s : State) (x y : Location) (l : ℕ) → value_at (written s (label x l)) y ≡ value_at s y
unfolding value_at written
value_after_label s (register j) (register k) l = refl
value_after_label s (register j) (word k) l = refl
value_after_label s (word j) (register k) l = refl
value_after_label s (word j) (word k) l = refl

-- What is written leaves what no step changes.
pub written_fixed : (s : State) (w : Write) → (written s w).fixed ≡ s.fixed
unfolding written
written_fixed s nothing = refl
written_fixed s (value (register k) v) = refl
written_fixed s (value (word k) v) = refl
written_fixed s (label (register k) l) = refl
written_fixed s (label (word k) l) = refl

-- The lengths of a state's four lists.
pub record Lengths : Type 0 where
  pub values : ℕ
  pub labels : ℕ
  pub words : ℕ
  pub tags : ℕ

-- The lengths of a state's four lists, the labels of the words last.
abbrev pub lengths : State → Lengths
lengths s =
    record {
      values = length s.registers.values;
      labels = length s.registers.labels;
      words = length s.memory.values;
      tags = length s.memory.labels;
    }

-- What is written leaves the lengths.
pub written_lengths : (s : State) (w : Write) → lengths (written s w) ≡ lengths s
unfolding written
written_lengths s nothing = refl
written_lengths s (value (register k) v) = rw length-set
written_lengths s (value (word k) v) = rw length-set
written_lengths s (label (register k) l) = rw length-set
written_lengths s (label (word k) l) = rw length-set
