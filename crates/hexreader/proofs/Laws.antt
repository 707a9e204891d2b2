-- What the reader of records keeps: bytes counted and summed one by one; and the bytes of a record by their digits.
-- Assumes nothing.
use Prim.Native.Nat.{ℕ, zero, suc, ◌+◌, ◌-◌, ◌*◌, ◌%◌, ◌≤◌, ◌<◌}
use mathlib.Core.Path.{◌≡◌, refl, sym, ap, ◌∙◌}
use mathlib.Core.Logic.{⊎_elim}
use mathlib.Core.Bool.{Bool, true, false, ◌&&◌, cond}
use mathlib.Core.List.{List, [], ◌∷◌}
use native.Mathlib.Nat.{mod-lt, mod-add-mod}
use native.Mathlib.Omega.{arith}
use lib.Dec.{leb, ltb, eqb, lit<}
use lib.ListN.{length, take, drop, get_or, length-drop}
use borrow.Author.Tests.{ltb-true, ltb-false, lt-ltb, le-ltb, lt-leb, le-leb, eqb-true, ne_eqb}
use Rattle.std.specs.Prelude.{Option, Some, None}
use Rattle.std.proofs.lemmas.Option.{cond_some, none-some, same_Some}
use Rattle.std.specs.Char.{digit_value}
use Rattle.model.specs.Text.{is_digit}
use Rattle.model.specs.Hex.{digit_of, byte_of, bytes, sum, HexRecord, Data, End, Bad, HexRead, is_whole, address_of, record_of, line_end, bad_record, ended, read_record}
use Rattle.model.proofs.Truth.{choice, either, and_iff}
use Rattle.texts.proofs.Text.{part}
use Rattle.texts.proofs.Hex.{byte_within, bytes_more, bytes_end, bytes_length, byte_written, line_within}
use Rattle.hexreader.specs.declared.Found.{Found}
use Rattle.hexreader.specs.declared.Total.{Total}
use Rattle.hexreader.specs.Reading.{below, written_at, record_in, read_in}
use Rattle.hexreader.proofs.Bytes.{below_some, below_none, some_below, none_below, bytes_small}
use Rattle.hexreader.specs.Inner.Total.{IsTotal, count_whole}
use Rattle.hexreader.specs.Inner.Ends.{above_none, end_behind, record_end}

-- ---- a byte

-- Two digits write a byte.
pub byte_told : (high low a b : ℕ) → Some a ≡ below 16 (digit_of high) → Some b ≡ below 16 (digit_of low)
    → Some (a * 16 + b) ≡ below 256 (byte_of high low)
unfolding byte_of
byte_told high low a b p q =
    let x = below_some 16 (digit_of high) a p in
    let y = below_some 16 (digit_of low) b q in
    rw (x.0, y.0, lt-ltb a 16 x.1, lt-ltb b 16 y.1) (some_below 256 (a * 16 + b) (a * 16 + b) refl (omega (arith, x.1, y.1)))

-- What is no digit doesn't.
pub no_high : (high low : ℕ) → None ≡ below 16 (digit_of high) → None ≡ below 256 (byte_of high low)
unfolding byte_of
no_high high low p = rw (le-ltb (digit_of high) 16 (below_none 16 (digit_of high) p))

pub no_low : (high low a : ℕ) → Some a ≡ below 16 (digit_of high) → None ≡ below 16 (digit_of low)
    → None ≡ below 256 (byte_of high low)
unfolding byte_of
no_low high low a p q =
    let x = below_some 16 (digit_of high) a p in
    rw (x.0, lt-ltb a 16 x.1, le-ltb (digit_of low) 16 (below_none 16 (digit_of low) q))

-- A byte has two digits in the text.
pub none_outside : (text : List ℕ) (at : ℕ) → length text ≤ at + 1 → None ≡ below 256 (written_at text at)
none_outside text at h =
    ⊎_elim
    (λ (t : ltb (written_at text at) 256 ≡ true). absurd (omega (arith, byte_within text at (ltb-true (written_at text at) 256 t))))
    (λ (f : ltb (written_at text at) 256 ≡ false). rw f)
    (either (ltb (written_at text at) 256))

-- A record's byte stands in the text.
pub byte_there : (text : List ℕ) (k at : ℕ) → k < length (bytes (drop 1 text)) → 1 + 2 * k ≡ at
    → None ≡ below 256 (written_at text at) → ⊥
byte_there text k at h e z =
    let small : written_at text (1 + 2 * k) < 256 = rw (← byte_written text k h) (bytes_small (drop 1 text) k) in
    let here : written_at text at < 256 = rw (← e) small in
    omega (arith, below_none 256 (written_at text at) z)

-- ---- bytes, one by one

-- Of the bytes behind the colon so many are counted and summed.
pub record Adding (text : List ℕ) (count total : ℕ) : Type 0 where
  pub within : 2 * count ≤ length (drop 1 text)
  pub small : total < 256
  pub counted : length (bytes (drop 1 text)) ≡ count + length (bytes (drop (1 + 2 * count) text))
  pub summed : sum (bytes (drop 1 text)) % 256 ≡ (total + sum (bytes (drop (1 + 2 * count) text))) % 256

-- None yet.
pub adding_none : (text : List ℕ) → Adding text 0 0
adding_none text =
    record { within = omega arith; small = lit< tt; counted = omega arith; summed = ap (λ (n : ℕ). n % 256) (omega arith) }

module _ {text : List ℕ} {count total : ℕ} (a : Adding text count total) where
  -- One more.
  pub adding_more : (byte : ℕ) → Some byte ≡ below 256 (written_at text (1 + 2 * count))
      → Adding text (count + 1) ((total + byte) % 256)
  unfolding sum
  adding_more byte e =
      let b = below_some 256 (written_at text (1 + 2 * count)) byte e in
      let w : 1 + 2 * count + 1 < length text = byte_within text (1 + 2 * count) (rw b.0 b.1) in
      let here : bytes (drop (1 + 2 * count) text) ≡ byte ∷ bytes (drop (1 + 2 * (count + 1)) text) =
      bytes_more text (1 + 2 * count) (rw b.0 b.1)
      ∙ (let at : 1 + 2 * count + 2 ≡ 1 + 2 * (count + 1) = omega arith in rw (at, b.0)) in
      record {
        within = omega (arith, length-drop 1 text);
        small = mod-lt _ (lit< tt);
        counted = a.counted ∙ rw here (omega arith);
        summed =
            a.summed
            ∙ ap (λ (bs : List ℕ). (total + sum bs) % 256) here
            ∙ ap (λ (n : ℕ). n % 256) (omega arith)
            ∙ sym (mod-add-mod (total + byte) 256 (sum (bytes (drop (1 + 2 * (count + 1)) text))));
      }

  -- It stands in the text.
  pub adding_within : (byte : ℕ) → Some byte ≡ below 256 (written_at text (1 + 2 * count)) → 1 + 2 * count + 1 < length text
  adding_within byte e =
      let b = below_some 256 (written_at text (1 + 2 * count)) byte e in byte_within text (1 + 2 * count) (rw b.0 b.1)

  -- All.
  pub adding_end : None ≡ below 256 (written_at text (1 + 2 * count))
      → IsTotal (bytes (drop 1 text)) (record { count = count; sum = total })
  unfolding sum
  adding_end e =
      let none : bytes (drop (1 + 2 * count) text) ≡ [] = bytes_end text (1 + 2 * count) (below_none 256 (written_at text (1 + 2 * count)) e) in
      record {
        counted = sym (a.counted ∙ rw none (omega arith));
        summed = sym (a.summed ∙ rw none (omega arith));
      }

-- ---- the bytes of a record

-- Whether the record is whole, from its total and its length.
pub whole_told : (text : List ℕ) (r : Total) (size : ℕ) → IsTotal (bytes (drop 1 text)) r → written_at text 1 ≡ size
    → (eqb r.count (size + 5) && eqb r.sum 0) ≡ is_whole (bytes (drop 1 text))
unfolding is_whole
whole_told text r size t e =
    let bs = bytes (drop 1 text) in
    ⊎_elim
    (λ (p : ltb 0 (length bs) ≡ true).
    let first : get_or bs 0 0 ≡ written_at text 1 = byte_written text 0 (ltb-true 0 _ p) in
    rw (t.counted, t.summed, ← e, first))
    (λ (p : ltb 0 (length bs) ≡ false).
    let none : length bs ≡ 0 = omega (arith, ltb-false 0 (length bs) p) in
    rw (t.counted, ne_eqb (length bs) (size + 5) (λ q. omega arith), ne_eqb (length bs) (get_or bs 0 0 + 5) (λ q. omega arith)))
    (either (ltb 0 (length bs)))

-- A record of no byte isn't.
pub whole_none : (text : List ℕ) → None ≡ below 256 (written_at text 1) → None ≡ count_whole (bytes (drop 1 text))
unfolding is_whole
whole_none text e = rw (bytes_end text 1 (below_none 256 (written_at text 1) e))

-- A whole record has five bytes at least.
pub whole_frame : (bs : List ℕ) (n : ℕ) → Some n ≡ count_whole bs → (is_whole bs ≡ true) × (length bs ≡ n) × (5 ≤ n)
unfolding is_whole
whole_frame bs n e =
    let h = cond_some (is_whole bs) (length bs) n (sym e) in
    let long : length bs ≡ get_or bs 0 0 + 5 =
    eqb-true _ _ ((and_iff (eqb (length bs) (get_or bs 0 0 + 5)) (eqb (sum bs % 256) 0)).0 h.0).0 in
    (h.0, h.1, omega arith)

-- The record by its type, from the bytes of its head.
pub record_told : (text : List ℕ) → 5 ≤ length (bytes (drop 1 text))
    → record_of (bytes (drop 1 text))
    ≡ cond (eqb (written_at text 7) 0)
    (Data (written_at text 3 * 256 + written_at text 5) (take (written_at text 1) (drop 4 (bytes (drop 1 text)))))
    (cond (eqb (written_at text 7) 1 && eqb (written_at text 1) 0) End Bad)
unfolding record_of address_of
record_told text h =
    rw (byte_written text 0 (omega arith), byte_written text 1 (omega arith), byte_written text 2 (omega arith), byte_written text 3 (omega arith))

module _ (text : List ℕ) (r : Total) (size : ℕ) (t : IsTotal (bytes (drop 1 text)) r) (l : Some size ≡ below 256 (written_at text 1))
  where
    pub whole_some : (eqb r.count (size + 5) && eqb r.sum 0) ≡ true → Some r.count ≡ count_whole (bytes (drop 1 text))
    whole_some e =
        let whole : is_whole (bytes (drop 1 text)) ≡ true = sym (whole_told text r size t (below_some 256 (written_at text 1) size l).0) ∙ e in
        rw (whole, t.counted)

    pub not_whole : (eqb r.count (size + 5) && eqb r.sum 0) ≡ false → None ≡ count_whole (bytes (drop 1 text))
    not_whole e =
        let not : is_whole (bytes (drop 1 text)) ≡ false = sym (whole_told text r size t (below_some 256 (written_at text 1) size l).0) ∙ e in
        rw not

-- By the bytes of its head.
module _ (text : List ℕ) (h : 5 ≤ length (bytes (drop 1 text))) {size high low kind : ℕ} (a : Some size ≡ below 256 (written_at text 1))
    (b : Some high ≡ below 256 (written_at text 3)) (c : Some low ≡ below 256 (written_at text 5))
    (d : Some kind ≡ below 256 (written_at text 7))
  where
    head : record_of (bytes (drop 1 text))
        ≡ cond (eqb kind 0) (Data (high * 256 + low) (take size (drop 4 (bytes (drop 1 text))))) (cond (eqb kind 1 && eqb size 0) End Bad)
    head =
        let s = (below_some 256 (written_at text 1) size a).0 in
        let x = (below_some 256 (written_at text 3) high b).0 in
        let y = (below_some 256 (written_at text 5) low c).0 in
        let z = (below_some 256 (written_at text 7) kind d).0 in
        record_told text h ∙ rw (s, x, y, z)

    pub given_told : (address : ℕ) → address ≡ high * 256 + low → kind ≡ 0
        → Data address (take size (drop 4 (bytes (drop 1 text)))) ≡ record_of (bytes (drop 1 text))
    given_told address e k = rw (head, e, k)

    pub end_told : kind ≡ 1 → size ≡ 0 → End ≡ record_of (bytes (drop 1 text))
    end_told k s = rw (head, k, s)

    pub bad_told : (kind ≡ 0 → ⊥) → (kind ≡ 1 → size ≡ 0 → ⊥) → Bad ≡ record_of (bytes (drop 1 text))
    bad_told k s =
        ⊎_elim
        (λ (p : eqb kind 1 ≡ true). rw (head, ne_eqb kind 0 k, p, ne_eqb size 0 (s (eqb-true kind 1 p))))
        (λ (p : eqb kind 1 ≡ false). rw (head, ne_eqb kind 0 k, p))
        (either (eqb kind 1))

-- ---- the record

-- A number above 0 is the model's, or there is none.
above_some : (n k : ℕ) → Some k ≡ above_none n → (n ≡ k) × (0 < k)
above_some zero k e = absurd (none-some k (sym e))
above_some (suc n) k e = let s : suc n ≡ k = sym (same_Some k (suc n) e) in (s, omega arith)

above_zero : (n : ℕ) → None ≡ above_none n → n ≡ 0
above_zero zero e = refl
above_zero (suc n) e = absurd (none-some (suc n) e)

-- It has no end, where the colon is missing.
pub no_colon : (text : List ℕ) → (get_or text 0 0 ≡ 58 → ⊥) → None ≡ record_end text
no_colon text h = rw (ne_eqb (get_or text 0 0) 58 h)

-- Its bytes aren't as many as it says, or their sum isn't 0.
pub not_full : (text : List ℕ) → get_or text 0 0 ≡ 58 → None ≡ count_whole (bytes (drop 1 text)) → None ≡ record_end text
not_full text c e =
    ⊎_elim (λ (w : is_whole (bytes (drop 1 text)) ≡ true). absurd (none-some (length (bytes (drop 1 text))) (rw w at e)))
    (λ (w : is_whole (bytes (drop 1 text)) ≡ false). rw (c, w))
    (either (is_whole (bytes (drop 1 text))))

module _ (text : List ℕ) (n : ℕ) (w : Some n ≡ count_whole (bytes (drop 1 text))) where
  -- Its digits lie in the text.
  pub digits_within : 1 + 2 * n ≤ length text
  digits_within =
      let h = whole_frame (bytes (drop 1 text)) n w in
      omega (arith, h.1, h.2, bytes_length (drop 1 text), length-drop 1 text)

  abbrev rest : List ℕ
  rest = take (length text - (1 + 2 * n)) (drop (1 + 2 * n) text)

  -- So does the end of its line.
  pub end_within : (end : ℕ) → Some end ≡ above_none (line_end rest) → 1 + 2 * n + end ≤ length text
  end_within end e =
      let k = (above_some (line_end rest) end e).0 in
      let l : end ≤ length (drop (1 + 2 * n) text) = rw (← k, part (1 + 2 * n) text) (line_within (drop (1 + 2 * n) text)) in
      omega (arith, digits_within, length-drop (1 + 2 * n) text)

  module _ (c : get_or text 0 0 ≡ 58) where
    -- It goes by the end of its line.
    ends : record_end text ≡ end_behind (1 + 2 * n) (line_end rest)
    ends = let h = whole_frame (bytes (drop 1 text)) n w in rw (c, h.0, h.1, part (1 + 2 * n) text)

    -- Its line doesn't end.
    pub open_line : None ≡ above_none (line_end rest) → None ≡ record_end text
    open_line z = sym (ends ∙ ap (end_behind (1 + 2 * n)) (above_zero (line_end rest) z))

    -- Its line ends.
    pub closed_line : (end : ℕ) → Some end ≡ above_none (line_end rest) → Some (1 + 2 * n + end) ≡ record_end text
    closed_line end l =
        let k = above_some (line_end rest) end l in sym (ends ∙ ap (end_behind (1 + 2 * n)) k.0 ∙ closed end k.1)
      where
        closed : (k : ℕ) → 0 < k → end_behind (1 + 2 * n) k ≡ Some (1 + 2 * n + k)
        closed zero g = absurd (omega arith)
        closed (suc k) g = refl

-- One that ends is read by its type; any other is bad.
abbrev read_to : HexRecord → Option ℕ → HexRead
read_to found None = bad_record
read_to found (Some n) = record { found = found; next = n }

reads : (text : List ℕ) → read_to (record_of (bytes (drop 1 text))) (record_end text) ≡ read_record text
unfolding read_record
reads text = same (record_of (bytes (drop 1 text))) _ _ _
  where
    same : (found : HexRecord) (begun : Bool) (n k : ℕ)
        → read_to found (cond begun (end_behind n k) None) ≡ cond begun (ended found n k) bad_record
    same found false n k = refl
    same found true n zero = refl
    same found true n (suc k) = refl

pub read_bad : (text : List ℕ) → None ≡ record_end text → bad_record ≡ read_record text
read_bad text e = ap (read_to (record_of (bytes (drop 1 text)))) e ∙ reads text

module _ (text : List ℕ) (n : ℕ) (e : Some n ≡ record_end text) where
  -- It has five bytes at least.
  pub frame_within : 5 ≤ length (bytes (drop 1 text))
  frame_within =
      ⊎_elim
      (λ (b : (eqb (get_or text 0 0) 58 && is_whole (bytes (drop 1 text))) ≡ true).
      let w = ((and_iff (eqb (get_or text 0 0) 58) (is_whole (bytes (drop 1 text)))).0 b).1 in
      (whole_frame (bytes (drop 1 text)) (length (bytes (drop 1 text))) (rw w)).2)
      (λ (b : (eqb (get_or text 0 0) 58 && is_whole (bytes (drop 1 text))) ≡ false). let z : Some n ≡ None = rw b at e in absurd (none-some n (sym z)))
      (either (eqb (get_or text 0 0) 58 && is_whole (bytes (drop 1 text))))

  pub read_whole : (found : Option Found) → record_in text found ≡ record_of (bytes (drop 1 text))
      → read_in text (record { found = found; next = n }) ≡ read_record text
  read_whole found f =
      ap (λ (h : HexRecord). read_to h (Some n)) f ∙ ap (read_to (record_of (bytes (drop 1 text)))) e ∙ reads text

-- ---- a digit

-- A byte lies in a row of digits, or outside.
inside : (low b high : ℕ) → low ≤ b → b ≤ high → (leb low b && leb b high) ≡ true
inside low b high p q = rw (le-leb low b p, le-leb b high q)

before : (low b high : ℕ) → b < low → (leb low b && leb b high) ≡ false
before low b high p = rw (lt-leb low b p)

behind : (low b high : ℕ) → high < b → (leb low b && leb b high) ≡ false
behind low b high p = rw (lt-leb b high p) (⊎_elim (λ (t : leb low b ≡ true). rw t) (λ (f : leb low b ≡ false). rw f) (either (leb low b)))

none_of_three : (b : ℕ) → (leb 48 b && leb b 57) ≡ false → (leb 65 b && leb b 70) ≡ false → (leb 97 b && leb b 102) ≡ false
    → digit_of b ≡ 16
unfolding digit_of is_digit
none_of_three b p q r = rw (p, q, r)

-- Its value is std's, where that is one of base 16.
abbrev IsTold : ℕ → ℕ → Type 0
IsTold b v = digit_of b ≡ cond (ltb v 16) v 16

digit_told : (b : ℕ) → IsTold b (digit_value b)
unfolding digit_of is_digit
digit_told b =
    choice (IsTold b) (ltb b 48) _ _
    (λ e. let h = ltb-true b 48 e in none_of_three b (before 48 b 57 h) (before 65 b 70 (omega arith)) (before 97 b 102 (omega arith)))
    (λ e0. let h0 = ltb-false b 48 e0 in
    choice (IsTold b) (ltb b 58) _ _
    (λ e. let h = ltb-true b 58 e in rw (inside 48 b 57 h0 (omega arith), lt-ltb (b - 48) 16 (omega arith)))
    (λ e1. let h1 = ltb-false b 58 e1 in
    choice (IsTold b) (ltb b 65) _ _
    (λ e. let h = ltb-true b 65 e in none_of_three b (behind 48 b 57 (omega arith)) (before 65 b 70 h) (before 97 b 102 (omega arith)))
    (λ e2. let h2 = ltb-false b 65 e2 in
    choice (IsTold b) (ltb b 91) _ _ (λ e. upper b h2 (ltb-true b 91 e))
    (λ e3. let h3 = ltb-false b 91 e3 in
    choice (IsTold b) (ltb b 97) _ _
    (λ e. let h = ltb-true b 97 e in none_of_three b (behind 48 b 57 (omega arith)) (behind 65 b 70 (omega arith)) (before 97 b 102 h))
    (λ e4. let h4 = ltb-false b 97 e4 in
    choice (IsTold b) (ltb b 123) _ _ (λ e. lower b h4 (ltb-true b 123 e))
    (λ e5. let h5 = ltb-false b 123 e5 in
    none_of_three b (behind 48 b 57 (omega arith)) (behind 65 b 70 (omega arith)) (behind 97 b 102 (omega arith))))))))
  where
    upper : (b : ℕ) → 65 ≤ b → b < 91 → IsTold b (b - 55)
    upper b p q =
        ⊎_elim
        (λ (t : ltb b 71 ≡ true).
        let h = ltb-true b 71 t in
        let v : b - 65 + 10 ≡ b - 55 = omega arith in
        rw (behind 48 b 57 (omega arith), inside 65 b 70 p (omega arith), lt-ltb (b - 55) 16 (omega arith), v))
        (λ (f : ltb b 71 ≡ false).
        let h = ltb-false b 71 f in
        none_of_three b (behind 48 b 57 (omega arith)) (behind 65 b 70 (omega arith)) (before 97 b 102 (omega arith))
        ∙ rw (le-ltb (b - 55) 16 (omega arith)))
        (either (ltb b 71))

    lower : (b : ℕ) → 97 ≤ b → b < 123 → IsTold b (b - 87)
    lower b p q =
        ⊎_elim
        (λ (t : ltb b 103 ≡ true).
        let h = ltb-true b 103 t in
        let v : b - 97 + 10 ≡ b - 87 = omega arith in
        rw (behind 48 b 57 (omega arith), behind 65 b 70 (omega arith), inside 97 b 102 p (omega arith), lt-ltb (b - 87) 16 (omega arith), v))
        (λ (f : ltb b 103 ≡ false).
        let h = ltb-false b 103 f in
        none_of_three b (behind 48 b 57 (omega arith)) (behind 65 b 70 (omega arith)) (behind 97 b 102 (omega arith))
        ∙ rw (le-ltb (b - 87) 16 (omega arith)))
        (either (ltb b 103))

-- A digit.
pub digit_some : (b d : ℕ) → (digit_value b < 16) × (d ≡ digit_value b) → Some d ≡ below 16 (digit_of b)
digit_some b d h = some_below 16 (digit_of b) d (digit_told b ∙ rw (lt-ltb (digit_value b) 16 h.0) (sym h.1)) (rw h.1 h.0)

-- None.
pub digit_none : (b : ℕ) → (digit_value b < 16 → ⊥) → None ≡ below 16 (digit_of b)
digit_none b h =
    let large : 16 ≤ digit_value b = omega arith in
    let none : digit_of b ≡ 16 = digit_told b ∙ rw (le-ltb (digit_value b) 16 large) in
    none_below 16 (digit_of b) (rw none (omega arith))
