-- A text of Intel HEX read record by record: the request for it. A record is a line: a colon, pairs of hexadecimal digits
-- of either case, LF or CR LF. Its bytes are a length, two of address, a type, so many bytes, and a check byte.
-- Assumes nothing.
use Rattle.std.specs.Prelude.{ℕ, zero, suc, ◌+◌, ◌-◌, ◌*◌, ◌%◌, Bool, ◌&&◌, cond, List, [], ◌∷◌, leb, ltb, eqb, length, take, drop, get_or}
use Rattle.model.specs.Numbers.{lf, cr, colon, digit_zero, upper_a, upper_f, lower_a, lower_f, no_digit, no_byte, record_head, record_frame}
use Rattle.model.specs.Text.{is_digit}

-- ---- bytes

-- A digit's value, in either case.
unfoldable pub digit_of : ℕ → ℕ
digit_of b =
    cond (is_digit b) (b - digit_zero)
    (cond (leb upper_a b && leb b upper_f) (b - upper_a + 10)
    (cond (leb lower_a b && leb b lower_f) (b - lower_a + 10) no_digit))

-- The byte that two digits write, the high one first.
unfoldable pub byte_of : ℕ → ℕ → ℕ
byte_of high low =
    cond (ltb (digit_of high) no_digit && ltb (digit_of low) no_digit) (digit_of high * no_digit + digit_of low) no_byte

-- The bytes that a text begins with: a pair of digits for each.
unfoldable pub bytes : List ℕ → List ℕ
bytes [] = []
bytes (high ∷ []) = []
bytes (high ∷ low ∷ xs) = cond (ltb (byte_of high low) no_byte) (byte_of high low ∷ bytes xs) []

-- Their sum.
unfoldable pub sum : List ℕ → ℕ
sum [] = 0
sum (b ∷ bs) = b + sum bs

-- ---- a record

-- What a record says: these bytes from an address on, or the end; or it is bad.
pub data HexRecord : Type 0 where
  Data : ℕ → List ℕ → HexRecord
  End : HexRecord
  Bad : HexRecord

-- A record, and how many bytes of the text it takes: where the next one begins.
pub record HexRead : Type 0 where
  pub found : HexRecord
  pub next : ℕ

-- The bytes are as many as the first of them says, and their sum is 0 modulo 256.
unfoldable pub is_whole : List ℕ → Bool
is_whole bs = eqb (length bs) (get_or bs 0 0 + record_frame) && eqb (sum bs % no_byte) 0

-- The address: two bytes, the high one first.
unfoldable pub address_of : List ℕ → ℕ
address_of bs = get_or bs 1 0 * no_byte + get_or bs 2 0

-- The record with these bytes, by its type: 00 gives bytes, 01 is the end and has none. Of the end the address isn't read.
unfoldable pub record_of : List ℕ → HexRecord
record_of bs =
    cond (eqb (get_or bs 3 0) 0) (Data (address_of bs) (take (get_or bs 0 0) (drop record_head bs)))
    (cond (eqb (get_or bs 3 0) 1 && eqb (get_or bs 0 0) 0) End Bad)

-- How many bytes end the line: an LF, or CR and LF; or 0, where neither stands there.
unfoldable pub line_end : List ℕ → ℕ
line_end xs = cond (eqb (get_or xs 0 0) lf) 1 (cond (eqb (get_or xs 0 0) cr && eqb (get_or xs 1 0) lf) 2 0)

-- A bad record.
abbrev pub bad_record : HexRead
bad_record = record { found = Bad; next = 0 }

-- The record of n bytes of the text, where these many bytes end its line.
abbrev pub ended : HexRecord → ℕ → ℕ → HexRead
ended found n zero = bad_record
ended found n (suc k) = record { found = found; next = n + suc k }

-- The record that a text begins with.
unfoldable pub read_record : List ℕ → HexRead
read_record xs =
    let bs = bytes (drop 1 xs) in
    let n = 1 + 2 * length bs in
    cond (eqb (get_or xs 0 0) colon && is_whole bs) (ended (record_of bs) n (line_end (drop n xs))) bad_record

-- ---- the records

-- The record read, and the records behind it; a bad record ends the reading.
abbrev pub onwards : HexRecord → List HexRecord → List HexRecord
onwards (Data a bs) rs = Data a bs ∷ rs
onwards End rs = End ∷ rs
onwards Bad rs = Bad ∷ []

-- So many records at the most: each is read from where the last one ended.
unfoldable pub records_in : ℕ → List ℕ → List HexRecord
records_in zero xs = []
records_in (suc k) [] = []
records_in (suc k) (b ∷ xs) =
    onwards (read_record (b ∷ xs)).found (records_in k (drop (read_record (b ∷ xs)).next (b ∷ xs)))

-- The records of a text. Each takes a byte at least.
unfoldable pub records : List ℕ → List HexRecord
records xs = records_in (length xs) xs
