-- A text read line by line: document 01, "Text", its first paragraph. Lines end in LF, comma-parted, no quoting, one to
-- ten digits without leading zeros. A text is the list of its bytes.
-- Assumes nothing.
use Rattle.std.specs.Prelude.{ℕ, zero, suc, ◌+◌, ◌-◌, ◌*◌, Bool, not, ◌&&◌, ◌||◌, cond, Option, Some, None, List, [], ◌∷◌, ◌++◌, leb, eqb, length, drop, get_or}
use Rattle.model.specs.declared.format.Number.{Number}
use Rattle.model.specs.declared.format.Line.{Line}
use Rattle.model.specs.declared.format.Line.TheVariants.{M, G, R, W, Malformed}
use Rattle.model.specs.declared.format.Read.{Read}
use Rattle.model.specs.Numbers.{comma, lf, digit_zero, digit_nine, letter_m, letter_g, letter_r, letter_w, most_digits}

-- ---- numbers

-- The byte is one of 0 to 9.
unfoldable pub is_digit : ℕ → Bool
is_digit b = leb digit_zero b && leb b digit_nine

-- The digits that a text begins with.
unfoldable pub digits : List ℕ → List ℕ
digits [] = []
digits (b ∷ xs) = cond (is_digit b) (b ∷ digits xs) []

-- The number that digits write in base ten behind the number n.
unfoldable pub decimal_from : ℕ → List ℕ → ℕ
decimal_from n [] = n
decimal_from n (b ∷ ds) = decimal_from (n * 10 + (b - digit_zero)) ds

-- One to ten digits without leading zeros.
unfoldable pub well_written : List ℕ → Bool
well_written ds =
    leb 1 (length ds) && leb (length ds) most_digits
    && (eqb (length ds) 1 || not (eqb (get_or ds 0 digit_zero) digit_zero))

-- The number that a text begins with.
unfoldable pub number : List ℕ → Option Number
number xs =
    cond (well_written (digits xs))
    (Some (record { value = decimal_from 0 (digits xs); length = length (digits xs) + 1 })) None

-- The field that a text begins with: a comma and a number.
unfoldable pub field : List ℕ → Option Number
field [] = None
field (b ∷ xs) = cond (eqb b comma) (number xs) None

-- ---- fields

-- Some fields in a row: their numbers, and how many bytes they take.
pub record Fields : Type 0 where
  pub numbers : List ℕ
  pub bytes : ℕ

-- One field more, behind those before it.
abbrev pub with_field : Fields → Option Number → Option Fields
with_field fs (Some n) = Some (record { numbers = fs.numbers ++ (n.value ∷ []); bytes = fs.bytes + n.length })
with_field fs None = None

-- The field of the text behind the fields before it.
abbrev pub next_field : List ℕ → Option Fields → Option Fields
next_field xs (Some fs) = with_field fs (field (drop fs.bytes xs))
next_field xs None = None

-- So many fields that a text begins with.
unfoldable pub read_fields : ℕ → List ℕ → Option Fields
read_fields zero xs = Some (record { numbers = []; bytes = 0 })
read_fields (suc k) xs = next_field xs (read_fields k xs)

-- ---- a line

-- How many fields a line has, by its letter; 0 for a byte that is no letter of a line.
unfoldable pub field_count : ℕ → ℕ
field_count letter =
    cond (eqb letter letter_m) 6
    (cond (eqb letter letter_g) 3
    (cond (eqb letter letter_r) 3
    (cond (eqb letter letter_w) 3 0)))

-- The line with a letter and its numbers.
unfoldable pub line_of : ℕ → List ℕ → Line
line_of letter ns =
    let n : ℕ → ℕ = λ i. get_or ns i 0 in
    cond (eqb letter letter_m) (M (n 0) (n 1) (n 2) (n 3) (n 4) (n 5))
    (cond (eqb letter letter_g) (G (n 0) (n 1) (n 2))
    (cond (eqb letter letter_r) (R (n 0) (n 1) (n 2))
    (cond (eqb letter letter_w) (W (n 0) (n 1) (n 2)) Malformed)))

-- A line that is malformed.
abbrev pub malformed : Read
malformed = record { line = Malformed; next = 0 }

-- A line of n bytes that an LF must end.
abbrev pub closed : List ℕ → ℕ → Line → Read
closed xs n l = cond (eqb (get_or xs n 0) lf) (record { line = l; next = n + 1 }) malformed

-- The line with these fields behind its letter.
abbrev pub with_fields : List ℕ → Option Fields → Read
with_fields xs (Some fs) = closed xs (1 + fs.bytes) (line_of (get_or xs 0 0) fs.numbers)
with_fields xs None = malformed

-- The line that a text begins with: its letter, as many fields as the letter has, and an LF.
unfoldable pub read_line : List ℕ → Read
read_line xs = with_fields xs (read_fields (field_count (get_or xs 0 0)) (drop 1 xs))

-- ---- the lines

-- The line read, and the lines behind it; a malformed line ends the reading.
abbrev pub onwards : Line → List Line → List Line
onwards (M a b c d e f) ls = M a b c d e f ∷ ls
onwards (G a b c) ls = G a b c ∷ ls
onwards (R a b c) ls = R a b c ∷ ls
onwards (W a b c) ls = W a b c ∷ ls
onwards Malformed ls = Malformed ∷ []

-- So many lines at the most: each is read from where the last one ended.
unfoldable pub lines_in : ℕ → List ℕ → List Line
lines_in zero xs = []
lines_in (suc k) [] = []
lines_in (suc k) (b ∷ xs) = onwards (read_line (b ∷ xs)).line (lines_in k (drop (read_line (b ∷ xs)).next (b ∷ xs)))

-- The lines of a text. Each takes a byte at least.
unfoldable pub lines : List ℕ → List Line
lines xs = lines_in (length xs) xs
