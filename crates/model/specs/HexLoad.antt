-- Loading an image from Intel HEX: an M text of one line, a HEX text, and a label; the refusals of the first are those of
-- load, and the second has 11 and 12. A refusal leaves the lent words and labels; an accepted image sets all that lie below
-- the size.
-- Assumes nothing.
use Rattle.std.specs.Prelude.{ℕ, zero, suc, ◌+◌, ◌*◌, ◌%◌, Bool, ◌||◌, cond, List, [], ◌∷◌, ◌++◌, leb, ltb, eqb, length, drop, get_or, set, replicate}
use Rattle.labels.specs.Label.{lowest}
use Rattle.causes.specs.declared.Cause.TheVariants.{OutOfOrder, MalformedRecord, MisplacedByte}
use Rattle.causes.specs.Causes.{Done}
use Rattle.causes.specs.Tests.{unless}
use Rattle.model.specs.Numbers.{no_byte, word_bytes}
use Rattle.model.specs.Record.{Bank, Machine}
use Rattle.model.specs.Text.{read_line}
use Rattle.model.specs.Hex.{HexRecord, Data, End, Bad, records}
use Rattle.model.specs.Load.{Verdict, refuse, accept, ◌and_then◌, judge_header, Loading, refusal}

-- ---- the M text

-- The verdict on the M text: that of load on its length and its first line; then 4 at line 2, if anything is behind it.
unfoldable pub judge_alone : List ℕ → Bank → Verdict Machine
judge_alone text m =
    judge_header (length text) (read_line text).line m
    and_then (λ r. unless (leb (length text) (read_line text).next) (refuse OutOfOrder 2) (accept r))

-- ---- the bytes given

-- The places for the bytes of so many words, to none of which a byte is given.
abbrev pub no_bytes : ℕ → List ℕ
no_bytes size = replicate (word_bytes * size) no_byte

-- A byte can be given here: the place is in memory, and has none yet.
unfoldable pub is_free : List ℕ → ℕ → Bool
is_free places at = eqb (get_or places at 0) no_byte

-- The verdict on the bytes of line n, each given to the place behind that of the last one: 12 where one can't be.
unfoldable pub give : ℕ → ℕ → List ℕ → List ℕ → Verdict (List ℕ)
give n at [] places = accept places
give n at (b ∷ bs) places = unless (is_free places at) (refuse MisplacedByte n) (give n (at + 1) bs (set places at b))

-- The verdict on the records, the next of which is line n. The end is the last line; where there is none, that is 11 at the
-- line behind the last one.
unfoldable pub judge_records : ℕ → List HexRecord → List ℕ → Verdict (List ℕ)
judge_records n [] places = refuse MalformedRecord n
judge_records n (Bad ∷ rs) places = refuse MalformedRecord n
judge_records n (End ∷ []) places = accept places
judge_records n (End ∷ r ∷ rs) places = refuse MalformedRecord (n + 1)
judge_records n (Data at bs ∷ rs) places = give n at bs places and_then (λ more. judge_records (n + 1) rs more)

-- ---- memory

-- The byte given to a place, or 0.
unfoldable pub byte_at : List ℕ → ℕ → ℕ
byte_at places at = get_or places at no_byte % no_byte

-- The word at address k: its four bytes, the lowest first.
unfoldable pub word_at : List ℕ → ℕ → ℕ
word_at places k =
    let at = word_bytes * k in
    byte_at places at + no_byte * (byte_at places (at + 1) + no_byte * (byte_at places (at + 2) + no_byte * byte_at places (at + 3)))

-- A byte is given to the place.
unfoldable pub is_given : List ℕ → ℕ → Bool
is_given places at = ltb (get_or places at no_byte) no_byte

-- One to a place of the word at address k.
unfoldable pub has_byte : List ℕ → ℕ → Bool
has_byte places k =
    let at = word_bytes * k in
    is_given places at || is_given places (at + 1) || is_given places (at + 2) || is_given places (at + 3)

-- The word's label: the one given, where the word has a byte.
unfoldable pub word_label : ℕ → List ℕ → ℕ → ℕ
word_label label places k = cond (has_byte places k) label lowest

-- The first n of a row of numbers.
unfoldable pub firsts : ℕ → (ℕ → ℕ) → List ℕ
firsts zero f = []
firsts (suc n) f = firsts n f ++ (f n ∷ [])

-- The memory below the size made of the bytes, what lies beyond left.
unfoldable pub placed : ℕ → ℕ → List ℕ → Bank → Bank
placed size label places m =
    record {
      values = firsts size (word_at places) ++ drop size m.values;
      labels = firsts size (word_label label places) ++ drop size m.labels;
    }

-- ---- the answer

-- The answer by the verdict on the records, for an accepted M text.
abbrev pub settle_records : Machine → ℕ → Verdict (List ℕ) → Bank → Loading
settle_records r label (refuse cause line) m = refusal cause line m
settle_records r label (accept places) m =
    record { outcome = Done; line = 0; machine = r; memory = placed r.fixed.size label places m }

-- The answer by the verdict on the M text. Only where that is accepted is the HEX text looked at; its lines are counted
-- from 1.
abbrev pub settle_hex : Verdict Machine → List ℕ → ℕ → Bank → Loading
settle_hex (refuse cause line) hex label m = refusal cause line m
settle_hex (accept r) hex label m = settle_records r label (judge_records 1 (records hex) (no_bytes r.fixed.size)) m

-- Load from HEX.
unfoldable pub load_hex : List ℕ → List ℕ → ℕ → Bank → Loading
load_hex text hex label m = settle_hex (judge_alone text m) hex label m
