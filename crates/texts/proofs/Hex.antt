-- Laws of the definitions of a HEX text: the bytes that its digits write, one by one, and how many bytes of the text a
-- record takes.
-- Assumes nothing.
use Prim.Native.Nat.{ℕ, zero, suc, ◌+◌, ◌*◌, ◌%◌, ◌≤◌, ◌<◌}
use mathlib.Core.Path.{◌≡◌, refl, sym, ap, subst, ◌∙◌}
use mathlib.Core.Logic.{⊎_elim}
use mathlib.Core.Bool.{Bool, true, ◌&&◌}
use mathlib.Core.List.{List, [], ◌∷◌}
use native.Mathlib.Numerals.{add-one}
use native.Mathlib.Omega.{arith}
use borrow.Author.Tests.{ltb-true, ltb-false, lt-ltb, eqb-true, eq-eqb}
use lib.Dec.{ltb, eqb}
use lib.ListN.{length, take, drop, get_or, length-drop, get_or-eq_default}
use lib.Seq.{length-take-le, drop-cons, get_or-drop}
use Rattle.model.specs.Hex.{digit_of, byte_of, bytes, sum, HexRecord, Data, End, Bad, HexRead, is_whole, record_of, line_end, bad_record, ended, read_record}
use Rattle.model.specs.Text.{is_digit}
use Rattle.model.proofs.Truth.{choice, either, and_iff}
use Rattle.texts.proofs.Text.{reaches}

-- ---- a byte

-- What stands behind the end of a text is no digit.
nothing : digit_of 0 ≡ 16
unfolding digit_of is_digit
nothing = refl

-- Two digits write a byte, and nothing else does.
pub byte_digits : (high low : ℕ) → byte_of high low < 256 → (digit_of high < 16) × (digit_of low < 16)
unfolding byte_of
byte_digits high low =
    choice (λ (b : ℕ). b < 256 → (digit_of high < 16) × (digit_of low < 16)) (ltb (digit_of high) 16 && ltb (digit_of low) 16) _ _
    (λ e h.
    let both = (and_iff (ltb (digit_of high) 16) (ltb (digit_of low) 16)).0 e in
    (ltb-true _ _ both.0, ltb-true _ _ both.1))
    (λ e h. absurd (omega arith))

-- No byte is above the number that stands where there is none.
pub byte_most : (high low : ℕ) → byte_of high low ≤ 256
unfolding byte_of
byte_most high low =
    choice (λ (b : ℕ). b ≤ 256) (ltb (digit_of high) 16 && ltb (digit_of low) 16) _ _
    (λ e.
    let both = (and_iff (ltb (digit_of high) 16) (ltb (digit_of low) 16)).0 e in
    omega (arith, ltb-true (digit_of high) 16 both.0, ltb-true (digit_of low) 16 both.1))
    (λ e. omega arith)

-- A digit stands in the text.
digit_reaches : (xs : List ℕ) (i : ℕ) → digit_of (get_or xs i 0) < 16 → i < length xs
digit_reaches xs i h =
    ⊎_elim (λ t. ltb-true _ _ t)
    (λ f. let d : get_or xs i 0 ≡ 0 = get_or-eq_default xs 0 (ltb-false _ _ f) in absurd (omega (arith, nothing, rw d at h)))
    (either (ltb i (length xs)))

-- Both digits of a byte do.
pub byte_within : (xs : List ℕ) (i : ℕ) → byte_of (get_or xs i 0) (get_or xs (i + 1) 0) < 256 → i + 1 < length xs
byte_within xs i h = digit_reaches xs (i + 1) (byte_digits _ _ h).1

-- Behind the end there is no byte.
pub byte_outside : (xs : List ℕ) (i low : ℕ) → length xs ≤ i → byte_of (get_or xs i 0) low ≡ 256
unfolding byte_of
byte_outside xs i low h = rw (get_or-eq_default xs 0 h, nothing)

-- ---- bytes, one by one

-- One more byte.
pub bytes_more : (xs : List ℕ) (i : ℕ) → byte_of (get_or xs i 0) (get_or xs (i + 1) 0) < 256
    → bytes (drop i xs) ≡ byte_of (get_or xs i 0) (get_or xs (i + 1) 0) ∷ bytes (drop (i + 2) xs)
unfolding bytes
bytes_more xs i h =
    let w : i + 1 < length xs = byte_within xs i h in
    let t : ltb (byte_of (get_or xs i 0) (get_or xs (i + 1) 0)) 256 ≡ true = lt-ltb _ _ h in
    let next : i + 2 ≡ suc (i + 1) = omega arith in
    let second : drop (suc i) xs ≡ get_or xs (i + 1) 0 ∷ drop (i + 2) xs =
    subst (λ (k : ℕ). drop k xs ≡ get_or xs (i + 1) 0 ∷ drop (i + 2) xs) (add-one i) (rw next (drop-cons xs (i + 1) 0 w)) in
    rw (drop-cons xs i 0 (omega arith), second, bytes, t)

-- The bytes end.
none_from : (ys : List ℕ) → (byte_of (get_or ys 0 0) (get_or ys 1 0) < 256 → ⊥) → bytes ys ≡ []
unfolding bytes
none_from [] h = refl
none_from (high ∷ []) h = refl
none_from (high ∷ low ∷ ys) h =
    choice (λ (r : List ℕ). r ≡ []) (ltb (byte_of high low) 256) _ _ (λ e. absurd (h (ltb-true _ _ e))) (λ e. refl)

pub bytes_end : (xs : List ℕ) (i : ℕ) → 256 ≤ byte_of (get_or xs i 0) (get_or xs (i + 1) 0) → bytes (drop i xs) ≡ []
bytes_end xs i h =
    let here : i + 0 ≡ i = omega arith in
    none_from (drop i xs) (rw (get_or-drop i xs 0 0, get_or-drop i xs 1 0, here) (λ l. omega arith))

-- There are two digits for each byte.
pub bytes_length : (xs : List ℕ) → 2 * length (bytes xs) ≤ length xs
unfolding bytes
bytes_length [] = omega arith
bytes_length (high ∷ []) = omega arith
bytes_length (high ∷ low ∷ xs) =
    choice (λ (r : List ℕ). 2 * length r ≤ suc (suc (length xs))) (ltb (byte_of high low) 256) _ _
    (λ e. omega (arith, bytes_length xs))
    (λ e. omega arith)

-- The byte k is the one that its two digits write.
pub bytes_at : (xs : List ℕ) (k : ℕ) → k < length (bytes xs)
    → get_or (bytes xs) k 0 ≡ byte_of (get_or xs (2 * k) 0) (get_or xs (2 * k + 1) 0)
unfolding bytes
bytes_at [] k = λ h. absurd (omega arith)
bytes_at (high ∷ []) k = λ h. absurd (omega arith)
bytes_at (high ∷ low ∷ xs) zero =
    choice (λ (r : List ℕ). 0 < length r → get_or r 0 0 ≡ byte_of high low) (ltb (byte_of high low) 256) _ _ (λ e h. refl)
    (λ e h. absurd (omega arith))
bytes_at (high ∷ low ∷ xs) (suc k) =
    let one : 2 * suc k + 1 ≡ suc (suc (2 * k + 1)) = omega arith in
    let two : 2 * suc k ≡ suc (suc (2 * k)) = omega arith in
    rw (one, two)
    (choice (λ (r : List ℕ). suc k < length r → get_or r (suc k) 0 ≡ byte_of (get_or xs (2 * k) 0) (get_or xs (2 * k + 1) 0))
    (ltb (byte_of high low) 256)
    _
    _
    (λ e h. bytes_at xs k (omega arith))
    (λ e h. absurd (omega arith)))

-- The same of the bytes behind a record's colon.
pub byte_written : (text : List ℕ) (k : ℕ) → k < length (bytes (drop 1 text))
    → get_or (bytes (drop 1 text)) k 0 ≡ byte_of (get_or text (1 + 2 * k) 0) (get_or text (1 + 2 * k + 1) 0)
byte_written text k h =
    let low : 1 + (2 * k + 1) ≡ 1 + 2 * k + 1 = omega arith in
    bytes_at (drop 1 text) k h ∙ rw (get_or-drop 1 text (2 * k) 0, get_or-drop 1 text (2 * k + 1) 0, low)

-- ---- a record

-- The bytes that a record gives are five fewer than it has.
abbrev fits : ℕ → HexRecord → Bool
fits n (Data at ds) = eqb (length ds + 5) n
fits n End = true
fits n Bad = true

ended_fits : (n m k : ℕ) (found : HexRecord) → fits n found ≡ true → fits n (ended found m k).found ≡ true
ended_fits n m zero found h = refl
ended_fits n m (suc k) found h = h

whole_fits : (bs : List ℕ) → is_whole bs ≡ true → fits (length bs) (record_of bs) ≡ true
unfolding is_whole record_of
whole_fits bs e =
    let counts = ((and_iff (eqb (length bs) (get_or bs 0 0 + 5)) (eqb (sum bs % 256) 0)).0 e).0 in
    let long : length bs ≡ get_or bs 0 0 + 5 = eqb-true _ _ counts in
    choice (λ (r : HexRecord). fits (length bs) r ≡ true) (eqb (get_or bs 3 0) 0) _ _
    (λ z.
    let given : length (take (get_or bs 0 0) (drop 4 bs)) ≡ get_or bs 0 0 =
    length-take-le (get_or bs 0 0) (drop 4 bs) (omega (arith, length-drop 4 bs)) in
    eq-eqb (length (take (get_or bs 0 0) (drop 4 bs)) + 5) (length bs) (omega arith))
    (λ z. choice (λ (r : HexRecord). fits (length bs) r ≡ true) (eqb (get_or bs 3 0) 1 && eqb (get_or bs 0 0) 0) _ _ (λ y. refl) (λ y. refl))

read_fits : (xs : List ℕ) → fits (length (bytes (drop 1 xs))) (read_record xs).found ≡ true
unfolding read_record
read_fits xs =
    let bs = bytes (drop 1 xs) in
    choice (λ (r : HexRead). fits (length bs) r.found ≡ true) (eqb (get_or xs 0 0) 58 && is_whole bs) _ _
    (λ e.
    ended_fits (length bs) _ (line_end (drop (1 + 2 * length bs) xs)) (record_of bs)
    (whole_fits bs ((and_iff (eqb (get_or xs 0 0) 58) (is_whole bs)).0 e).1))
    (λ e. refl)

pub data_length : (xs : List ℕ) (at : ℕ) (ds : List ℕ) → (read_record xs).found ≡ Data at ds
    → length ds + 5 ≡ length (bytes (drop 1 xs))
data_length xs at ds e =
    eqb-true _ _ (ap (fits (length (bytes (drop 1 xs)))) (sym e) ∙ read_fits xs)

-- The end of a line lies in the text.
pub line_within : (xs : List ℕ) → line_end xs ≤ length xs
unfolding line_end
line_within xs =
    choice (λ (n : ℕ). n ≤ length xs) (eqb (get_or xs 0 0) 10) _ _
    (λ e. omega (arith, reaches xs 0 10 (eqb-true _ _ e) (omega arith)))
    (λ e.
    choice (λ (n : ℕ). n ≤ length xs) (eqb (get_or xs 0 0) 13 && eqb (get_or xs 1 0) 10) _ _
    (λ f.
    let lf = ((and_iff (eqb (get_or xs 0 0) 13) (eqb (get_or xs 1 0) 10)).0 f).1 in
    omega (arith, reaches xs 1 10 (eqb-true _ _ lf) (omega arith)))
    (λ f. omega arith))

-- What was read lies in the text, and takes two bytes at least unless it is bad.
pub record Sized (xs : List ℕ) (r : HexRead) : Type 0 where
  pub within : r.next ≤ length xs
  pub moves : (r.found ≡ Bad → ⊥) → 2 ≤ r.next

sized_bad : (xs : List ℕ) → Sized xs bad_record
sized_bad xs = record { within = omega arith; moves = λ h. absurd (h refl) }

sized_ended : (xs : List ℕ) (found : HexRecord) (n k : ℕ) → 1 ≤ n → n + k ≤ length xs → Sized xs (ended found n k)
sized_ended xs found n zero g h = sized_bad xs
sized_ended xs found n (suc k) g h = record { within = omega arith; moves = λ b. omega arith }

-- Every record that is read.
pub sized : (xs : List ℕ) → Sized xs (read_record xs)
unfolding read_record
sized xs =
    let bs = bytes (drop 1 xs) in
    let n = 1 + 2 * length bs in
    choice (Sized xs) (eqb (get_or xs 0 0) 58 && is_whole bs) _ _
    (λ e.
    let l : 0 < length xs = reaches xs 0 58 (eqb-true _ _ ((and_iff (eqb (get_or xs 0 0) 58) (is_whole bs)).0 e).0) (omega arith) in
    sized_ended xs (record_of bs) n (line_end (drop n xs)) (omega arith)
    (omega (arith, bytes_length (drop 1 xs), length-drop 1 xs, length-drop n xs, line_within (drop n xs))))
    (λ e. sized_bad xs)
