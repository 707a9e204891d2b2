-- The words of lines kept aside: filled into a blank bank and then copied over memory below the size, they are what
-- filling cleared memory gives.
-- Assumes nothing.
use Prim.Native.Nat.{ℕ, zero, suc, ◌≤◌, ◌<◌}
use mathlib.Core.Path.{◌≡◌, refl, sym, ap, ◌∙◌}
use mathlib.Core.Bool.{true}
use mathlib.Core.List.{List, [], ◌∷◌, ◌++◌}
use native.Mathlib.Omega.{arith}
use borrow.Author.Tests.{lt-ltb}
use lib.ListN.{length, take, drop, set, replicate, length-set, length-replicate}
use lib.Seq.{length-take-le, set-append_left, take-set-lt}
use Rattle.labels.specs.Label.{label_count, lowest}
use Rattle.model.specs.declared.format.Line.{Line}
use Rattle.model.specs.declared.format.Line.TheVariants.{M, G, R, W, Malformed}
use Rattle.model.specs.Numbers.{value_count}
use Rattle.model.specs.Record.{Bank}
use Rattle.model.specs.Ops.{is_label}
use Rattle.model.specs.Load.{blank, entry_in_range, cleared, with_word, fill}
use Rattle.model.proofs.Truth.{and_iff}
use Rattle.texts.specs.Inner.Storable.{is_storable, storable}
use Rattle.texts.proofs.Ranges.{EntryRange, entry_range}

-- ---- the word of a line

-- A line that may be written below a size may be written below a larger one.
pub storable_wider : (a b : ℕ) (l : Line) → a ≤ b → is_storable a l ≡ true → is_storable b l ≡ true
unfolding entry_in_range is_label
storable_wider a b (M _ _ _ _ _ _) h e = e
storable_wider a b (G _ _ _) h e = e
storable_wider a b (R _ _ _) h e = e
storable_wider a b (W k l v) h e =
    let r : EntryRange a k l v = entry_range a k l v e in
    rw (lt-ltb k b (omega (arith, r.below)), lt-ltb l label_count r.label, lt-ltb v value_count r.value)
storable_wider a b Malformed h e = e

-- The numbers of a W line that may be written.
pub stored_range : (n : ℕ) (line : Line) (k l v : ℕ) → is_storable n line ≡ true → line ≡ W k l v → EntryRange n k l v
stored_range n line k l v e q = entry_range n k l v (ap (is_storable n) (sym q) ∙ e)

-- Only a W line is written.
pub not_stored : (l : Line) (m : Bank) → ((a b c : ℕ) → l ≡ W a b c → ⊥) → m ≡ with_word m l
not_stored (M _ _ _ _ _ _) m h = refl
not_stored (G _ _ _) m h = refl
not_stored (R _ _ _) m h = refl
not_stored (W a b c) m h = absurd (h a b c refl)
not_stored Malformed m h = refl

-- ---- one bank over another

-- The words and labels of a bank below the size, and what lies beyond of the memory.
abbrev pub over : ℕ → Bank → Bank → Bank
over size b m =
    record {
      values = take size b.values ++ drop size m.values;
      labels = take size b.labels ++ drop size m.labels;
    }

-- The bank has room for so many words.
pub record Holds (size : ℕ) (b : Bank) : Type 0 where
  pub values : size ≤ length b.values
  pub labels : size ≤ length b.labels

-- So it has with a word set.
holds_word : (size : ℕ) (b : Bank) (l : Line) → Holds size b → Holds size (with_word b l)
holds_word size b (M _ _ _ _ _ _) h = h
holds_word size b (G _ _ _) h = h
holds_word size b (R _ _ _) h = h
holds_word size b (W k l v) h =
    record {
      values = omega (arith, h.values, length-set b.values k v);
      labels = omega (arith, h.labels, length-set b.labels k l);
    }
holds_word size b Malformed h = h

-- An element below the size is set before it is copied, or after.
set_over : (size : ℕ) (xs ys : List ℕ) (k v : ℕ) → size ≤ length xs → k < size
    → take size (set xs k v) ++ ys ≡ set (take size xs ++ ys) k v
set_over size xs ys k v h i =
    ap (λ (l : List ℕ). l ++ ys) (take-set-lt size xs k v i)
    ∙ sym (set-append_left (take size xs) ys k v (rw (length-take-le size xs h) i))

-- So is the word of a line that may be written.
over_word : (size : ℕ) (b m : Bank) (l : Line) → Holds size b → is_storable size l ≡ true
    → over size (with_word b l) m ≡ with_word (over size b m) l
over_word size b m (M _ _ _ _ _ _) h e = refl
over_word size b m (G _ _ _) h e = refl
over_word size b m (R _ _ _) h e = refl
over_word size b m (W k l v) h e =
    let r : EntryRange size k l v = entry_range size k l v e in
    rw (
      set_over size b.values (drop size m.values) k v h.values r.below,
      set_over size b.labels (drop size m.labels) k l h.labels r.below,
    )
over_word size b m Malformed h e = refl

-- And those of all lines.
over_fill : (size : ℕ) (ls : List Line) (b m : Bank) → Holds size b → storable size ls ≡ true
    → over size (fill ls b) m ≡ fill ls (over size b m)
unfolding fill storable
over_fill size [] b m h e = refl
over_fill size (l ∷ ls) b m h e =
    let both = (and_iff (is_storable size l) (storable size ls)).0 e in
    over_fill size ls (with_word b l) m (holds_word size b l h) both.1
    ∙ ap (fill ls) (over_word size b m l h both.0)

-- The first of many equal elements.
take_replicate : (n k x : ℕ) → n ≤ k → take n (replicate k x) ≡ replicate n x
take_replicate zero k x h = refl
take_replicate (suc n) zero x h = absurd (omega arith)
take_replicate (suc n) (suc k) x h = ap (λ (l : List ℕ). x ∷ l) (take_replicate n k x (omega arith))

-- A blank bank over memory is cleared memory.
over_blank : (size n : ℕ) (m : Bank) → size ≤ n → over size (blank n) m ≡ cleared size m
unfolding cleared
over_blank size n m h = rw (take_replicate size n 0 h, take_replicate size n lowest h)

-- What is kept in a blank bank and then copied is the filled memory.
pub kept_over : (size n : ℕ) (ls : List Line) (m : Bank) → size ≤ n → storable size ls ≡ true
    → over size (fill ls (blank n)) m ≡ fill ls (cleared size m)
kept_over size n ls m h e =
    over_fill size ls (blank n) m
    (record { values = rw (length-replicate {A = ℕ} n 0) h; labels = rw (length-replicate {A = ℕ} n lowest) h })
    e
    ∙ ap (fill ls) (over_blank size n m h)
