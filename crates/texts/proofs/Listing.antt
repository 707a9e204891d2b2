-- The lines of a listing, as its code writes them: the E and F lines or the line in their place, and the lines of entries
-- one by one, each by what the viewer's label sees of it. And that print leaves nothing out.
-- Assumes nothing.
use Prim.Native.Nat.{ℕ, zero, suc, ◌+◌, ◌-◌, ◌*◌, ◌<◌, ◌≤◌}
use mathlib.Core.Path.{◌≡◌, refl, sym, ap, ap₂, ◌∙◌}
use mathlib.Core.Bool.{Bool, true, false, ◌&&◌, cond}
use mathlib.Core.List.{List, [], ◌∷◌, ◌++◌, append_assoc, append-nil}
use native.Mathlib.Nat.{zero-add, suc-add}
use native.Mathlib.Omega.{arith}
use lib.ListN.{length, take, get_or, length-append}
use lib.Seq.{get_or-take}
use borrow.Author.Tests.{lt-ltb, le-ltb}
use Rattle.labels.specs.Label.{principals, highest}
use Rattle.principals.proofs.Laws.{flows_highest}
use Rattle.model.specs.declared.Control.{Control}
use Rattle.model.specs.declared.Call.{Call}
use Rattle.model.specs.declared.Call.TheVariants.{Empty, Gate, Upcall}
use Rattle.model.specs.Record.{Bank, State, lent, register, word, value_at, label_at}
use Rattle.model.specs.Numbers.{letter_h, letter_r, letter_w, register_count, most_words}
use Rattle.model.specs.Seen.{within, exists, Seen, hidden, shown, seen_by, seen_at, SeenControl, unseen, seen, seen_control}
use Rattle.model.specs.Listing.{line, end_fields, call_line, head_lines, head_for, is_listed, entry_line, entry_for, entry_lines, listing_for, listing}
use Rattle.texts.specs.Inner.Sight.{control_seen, entry_seen, bank_seen, all_seen}
use Rattle.texts.proofs.Fields.{line_most}

-- ---- the E line and the F lines

-- A call's F line is at most a letter, five fields and an LF.
pub call_most : (x : Call) → length (call_line x) ≤ 107
call_most Empty = omega arith
call_most (Gate k q) = omega (arith, line_most 70 (1 ∷ k ∷ q.pc ∷ q.timing ∷ 0 ∷ []))
call_most (Upcall k q e) = omega (arith, line_most 70 (2 ∷ k ∷ q.pc ∷ q.timing ∷ e ∷ []))

-- The length of the E line and the F lines together.
pub head_length : (c : Control)
    → length (head_lines c) ≡ length (line 69 (end_fields c)) + length (call_line c.first) + length (call_line c.second)
unfolding head_lines
head_length c = simp length-append (omega arith)

-- Where ℓ sees the control they are written, else the line in their place.
pub head_seen : (ℓ : ℕ) (c : Control)
    → head_for (control_seen ℓ c) ≡ cond (within ℓ c.pair.pc) (head_lines c) (line letter_h [])
unfolding control_seen
head_seen ℓ c = go (within ℓ c.pair.pc)
  where
    go : (b : Bool) → head_for (cond b (seen c) unseen) ≡ cond b (head_lines c) (line letter_h [])
    go true = refl
    go false = refl

-- They take at most 342 bytes.
pub head_most : (c : Control) → length (head_lines c) ≤ 342
head_most c =
    rw (head_length c)
    (omega (arith, line_most 69 (end_fields c), call_most c.first, call_most c.second))

-- So does what is written of them.
pub head_for_most : (h : SeenControl) → length (head_for h) ≤ 342
head_for_most unseen = omega (arith, line_most letter_h [])
head_for_most (seen c) = head_most c

-- ---- an entry

-- The line of an entry that ℓ sees and that differs; any other has none.
pub entry_seen_lem : (ℓ letter k label value : ℕ)
    → entry_for letter k (entry_seen ℓ label value)
    ≡ cond (within ℓ label && is_listed label value) (line letter (k ∷ label ∷ value ∷ [])) []
unfolding entry_seen entry_line
entry_seen_lem ℓ letter k label value = go (within ℓ label)
  where
    go : (b : Bool)
        → entry_for letter k (cond b (shown label value) hidden)
        ≡ cond (b && is_listed label value) (line letter (k ∷ label ∷ value ∷ [])) []
    go true = refl
    go false = refl

-- A line or nothing is no longer than the line.
pub cond_most : (t : Bool) (xs : List ℕ) → length (cond t xs []) ≤ length xs
cond_most true xs = omega arith
cond_most false xs = omega arith

-- An entry takes at most a letter, three fields and an LF.
pub entry_most : (letter k label value : ℕ) → length (entry_line letter k label value) ≤ 65
unfolding entry_line
entry_most letter k label value =
    omega (
      arith,
      cond_most (is_listed label value) (line letter (k ∷ label ∷ value ∷ [])),
      line_most letter (k ∷ label ∷ value ∷ []),
    )

-- The same for what is seen of it.
pub entry_for_most : (letter k : ℕ) (x : Seen) → length (entry_for letter k x) ≤ 65
entry_for_most letter k hidden = omega arith
entry_for_most letter k (shown label value) = entry_most letter k label value

-- ---- entries

-- The lines of m entries, and those of n entries behind them.
entries_split : (letter : ℕ) (f : ℕ → Seen) (j m n : ℕ)
    → entry_lines letter f j (m + n) ≡ entry_lines letter f j m ++ entry_lines letter f (j + m) n
unfolding entry_lines
entries_split letter f j zero n = let e : j + 0 ≡ j = omega arith in rw (zero-add n, e)
entries_split letter f j (suc m) n =
    let e : (j + 1) + m ≡ j + suc m = omega arith in
    rw (suc-add m n, entries_split letter f (j + 1) m n, append_assoc, e)

-- One entry more.
pub entries_more : (letter : ℕ) (f : ℕ → Seen) (k : ℕ)
    → entry_lines letter f 0 (k + 1) ≡ entry_lines letter f 0 k ++ entry_for letter k (f k)
unfolding entry_lines
entries_more letter f k = rw (entries_split letter f 0 k 1, zero-add, append-nil)

-- n entries take at most 65 bytes each.
pub entries_most : (letter : ℕ) (f : ℕ → Seen) (j n : ℕ) → length (entry_lines letter f j n) ≤ 65 * n
unfolding entry_lines
entries_most letter f j zero = omega arith
entries_most letter f j (suc n) =
    simp length-append (omega (arith, entries_most letter f (j + 1) n, entry_for_most letter j (f j)))

-- Entries of which the same is seen have the same lines.
entries_same : (letter size : ℕ) (f g : ℕ → Seen) → ((k : ℕ) → k < size → f k ≡ g k) → (j n : ℕ) → j + n ≤ size
    → entry_lines letter f j n ≡ entry_lines letter g j n
unfolding entry_lines
entries_same letter size f g e j zero h = refl
entries_same letter size f g e j (suc n) h =
    rw (e j (omega arith), entries_same letter size f g e (j + 1) n (omega arith))

-- So have the first n entries of a bank that are lent alone.
pub entries_taken : (ℓ letter n : ℕ) (vs ls : List ℕ)
    → entry_lines letter (bank_seen ℓ (lent (take n vs) (take n ls))) 0 n ≡ entry_lines letter (bank_seen ℓ (lent vs ls)) 0 n
entries_taken ℓ letter n vs ls =
    entries_same letter n _ _ (λ k h. rw (get_or-take n vs k 0 h, get_or-take n ls k 0 h) refl) 0 n (omega arith)

-- Hidden entries have none.
entries_hidden : (letter size : ℕ) (f : ℕ → Seen) → ((k : ℕ) → size ≤ k → f k ≡ hidden) → (j n : ℕ) → size ≤ j
    → entry_lines letter f j n ≡ []
unfolding entry_lines
entries_hidden letter size f e j zero h = refl
entries_hidden letter size f e j (suc n) h = rw (e j h, entries_hidden letter size f e (j + 1) n (omega arith))

-- ---- the whole

-- What ℓ sees of a register is what it sees of the bank's entry, and so it is with a word below the size.
register_seen : (ℓ : ℕ) (s : State) (k : ℕ) → k < register_count → seen_at ℓ s (register k) ≡ bank_seen ℓ s.registers k
unfolding seen_by exists value_at label_at entry_seen
register_seen ℓ s k h = rw (lt-ltb k register_count h)

word_seen : (ℓ : ℕ) (s : State) (k : ℕ) → k < s.fixed.size → seen_at ℓ s (word k) ≡ bank_seen ℓ s.memory k
unfolding seen_by exists value_at label_at entry_seen
word_seen ℓ s k h = rw (lt-ltb k s.fixed.size h)

-- It sees no other word.
word_beyond : (ℓ : ℕ) (s : State) (k : ℕ) → s.fixed.size ≤ k → seen_at ℓ s (word k) ≡ hidden
unfolding seen_by exists
word_beyond ℓ s k h = rw (le-ltb k s.fixed.size h)

-- The W lines are those of the words below the size.
word_lines : (ℓ : ℕ) (s : State) → s.fixed.size ≤ most_words
    → entry_lines letter_w (λ k. seen_at ℓ s (word k)) 0 most_words ≡ entry_lines letter_w (bank_seen ℓ s.memory) 0 s.fixed.size
word_lines ℓ s h =
    let size = s.fixed.size in
    let f : ℕ → Seen = λ k. seen_at ℓ s (word k) in
    let e : size + (most_words - size) ≡ most_words = omega arith in
    ap (entry_lines letter_w f 0) (sym e)
    ∙ entries_split letter_w f 0 size (most_words - size)
    ∙ ap₂ (λ (xs ys : List ℕ). xs ++ ys)
    (entries_same letter_w size f (bank_seen ℓ s.memory) (word_seen ℓ s) 0 size (omega arith))
    (entries_hidden letter_w size f (word_beyond ℓ s) (0 + size) (most_words - size) (omega arith))
    ∙ append-nil _

-- A listing as it is written: what ℓ sees of the control, of the registers, and of the words below the size.
pub listing_banks : (ℓ : ℕ) (s : State) → s.fixed.size ≤ most_words
    → listing_for ℓ s
    ≡ (head_for (control_seen ℓ s.control) ++ entry_lines letter_r (bank_seen ℓ s.registers) 0 register_count)
    ++ entry_lines letter_w (bank_seen ℓ s.memory) 0 s.fixed.size
unfolding listing_for seen_control control_seen
listing_banks ℓ s h =
    ap₂ (λ (xs ys : List ℕ). (head_for (control_seen ℓ s.control) ++ xs) ++ ys)
    (entries_same letter_r register_count (λ k. seen_at ℓ s (register k)) (bank_seen ℓ s.registers) (register_seen ℓ s) 0
    register_count (omega arith))
    (word_lines ℓ s h)

-- The length of a listing.
pub listing_length : (ℓ : ℕ) (s : State) → s.fixed.size ≤ most_words
    → length (listing_for ℓ s)
    ≡ length (head_for (control_seen ℓ s.control)) + length (entry_lines letter_r (bank_seen ℓ s.registers) 0 register_count)
    + length (entry_lines letter_w (bank_seen ℓ s.memory) 0 s.fixed.size)
listing_length ℓ s h = rw (listing_banks ℓ s h) (simp length-append)

-- ---- nothing is left out

-- The highest label sees every control and every entry.
highest_within : (l : ℕ) → within highest l ≡ true
unfolding within
highest_within l = (flows_highest principals l).holds

control_whole : (c : Control) → control_seen highest c ≡ seen c
unfolding control_seen
control_whole c = rw (highest_within c.pair.pc)

bank_whole : (b : Bank) (k : ℕ) → bank_seen highest b k ≡ all_seen b k
unfolding entry_seen
bank_whole b k = rw (highest_within (get_or b.labels k 0))

-- Print leaves nothing out: its listing has the E and F lines, and each register and each word below the size that differs
-- from value 0, label 240.
pub listing_whole : (s : State) → s.fixed.size ≤ most_words
    → listing s
    ≡ (head_lines s.control ++ entry_lines letter_r (all_seen s.registers) 0 register_count)
    ++ entry_lines letter_w (all_seen s.memory) 0 s.fixed.size
listing_whole s h =
    let size = s.fixed.size in
    listing_banks highest s h
    ∙ rw (
      control_whole s.control,
      entries_same letter_r register_count (bank_seen highest s.registers) (all_seen s.registers) (λ k _. bank_whole s.registers k) 0
          register_count (omega arith),
      entries_same letter_w size (bank_seen highest s.memory) (all_seen s.memory) (λ k _. bank_whole s.memory k) 0 size (omega arith),
    )
