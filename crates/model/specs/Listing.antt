-- The listing of a record and its memory for one viewer's label, and what print answers: document 01, "Text", the second
-- paragraph and the rows 6 to 8 of its table. A listing is written from what the label sees and from nothing else. Print's
-- is the one of the highest label, to which every label flows.
-- Assumes nothing.
use Rattle.std.specs.Prelude.{ℕ, zero, suc, ◌+◌, ◌/◌, ◌%◌, Bool, not, cond, List, [], ◌∷◌, ◌++◌, leb, ltb, length, drop}
use Rattle.labels.specs.Label.{highest}
use Rattle.causes.specs.declared.Cause.{Cause}
use Rattle.causes.specs.declared.Cause.TheVariants.{ShortMemory, IllFormed, ShortOutput}
use Rattle.causes.specs.Causes.{Outcome, Done, Refused}
use Rattle.causes.specs.Tests.{unless}
use Rattle.model.specs.declared.Pair.{Pair}
use Rattle.model.specs.declared.Control.{Control}
use Rattle.model.specs.declared.Call.{Call}
use Rattle.model.specs.declared.Call.TheVariants.{Empty, Gate, Upcall}
use Rattle.model.specs.Record.{Bank, Machine, State, state_of, register, word}
use Rattle.model.specs.WellFormed.{is_blank, well_formed, lent_whole}
use Rattle.model.specs.Numbers.{comma, lf, digit_zero, letter_e, letter_f, letter_h, letter_r, letter_w, gate_kind, upcall_kind, register_count, most_words}
use Rattle.model.specs.Seen.{Seen, hidden, shown, seen_at, SeenControl, unseen, seen, seen_control}

-- ---- a line

-- The digits of a number in base ten: so many at the most.
unfoldable pub decimal_in : ℕ → ℕ → List ℕ
decimal_in zero n = []
decimal_in (suc k) n = cond (ltb n 10) ((digit_zero + n) ∷ []) (decimal_in k (n / 10) ++ ((digit_zero + n % 10) ∷ []))

-- The number in base ten. Twenty digits are enough for every number of the record.
unfoldable pub decimal : ℕ → List ℕ
decimal n = decimal_in 20 n

-- Fields: each a comma and a number.
unfoldable pub fields : List ℕ → List ℕ
fields [] = []
fields (n ∷ ns) = comma ∷ (decimal n ++ fields ns)

-- A line: its letter, its fields and an LF.
unfoldable pub line : ℕ → List ℕ → List ℕ
line letter ns = letter ∷ (fields ns ++ (lf ∷ []))

-- ---- the listing

-- The fields of the E line: `E,end,why,clock,place,p,t`.
abbrev pub end_fields : Control → List ℕ
end_fields c = c.end ∷ c.why ∷ c.clock ∷ c.pc ∷ c.pair.pc ∷ c.pair.timing ∷ []

-- The fields of an F line: `F,kind,place,p,t,end tick`.
abbrev pub call_fields : ℕ → ℕ → Pair → ℕ → List ℕ
call_fields kind back q tick = kind ∷ back ∷ q.pc ∷ q.timing ∷ tick ∷ []

-- The F line of an open call; the end tick of a gate call is 0.
abbrev pub call_line : Call → List ℕ
call_line Empty = []
call_line (Gate k q) = line letter_f (call_fields gate_kind k q 0)
call_line (Upcall k q e) = line letter_f (call_fields upcall_kind k q e)

-- The E line, then F lines for open calls, older first.
unfoldable pub head_lines : Control → List ℕ
head_lines c = (line letter_e (end_fields c) ++ call_line c.first) ++ call_line c.second

-- The same for what is seen of the control: where that is nothing, a line `H` stands for them.
abbrev pub head_for : SeenControl → List ℕ
head_for unseen = line letter_h []
head_for (seen c) = head_lines c

-- An entry with this label and value has a line: it differs from value 0, label 240.
unfoldable pub is_listed : ℕ → ℕ → Bool
is_listed label value = not (is_blank label value)

-- The R or W line of the entry k with this label and value, or nothing.
unfoldable pub entry_line : ℕ → ℕ → ℕ → ℕ → List ℕ
entry_line letter k label value = cond (is_listed label value) (line letter (k ∷ label ∷ value ∷ [])) []

-- The same for what is seen of the entry.
abbrev pub entry_for : ℕ → ℕ → Seen → List ℕ
entry_for letter k hidden = []
entry_for letter k (shown label value) = entry_line letter k label value

-- The lines of n entries from k on, by what is seen of each.
unfoldable pub entry_lines : ℕ → (ℕ → Seen) → ℕ → ℕ → List ℕ
entry_lines letter sight k zero = []
entry_lines letter sight k (suc n) = entry_for letter k (sight k) ++ entry_lines letter sight (k + 1) n

-- The listing for the label ℓ: the E line and the F lines, then R lines and W lines, all of what ℓ sees. It sees no word at
-- or beyond the size.
unfoldable pub listing_for : ℕ → State → List ℕ
listing_for ℓ s =
    (head_for (seen_control ℓ s) ++ entry_lines letter_r (λ k. seen_at ℓ s (register k)) 0 register_count)
    ++ entry_lines letter_w (λ k. seen_at ℓ s (word k)) 0 most_words

-- The listing: that of the highest label, which sees everything.
abbrev pub listing : State → List ℕ
listing s = listing_for highest s

-- ---- the answer

-- The answer of print: its outcome; the record; the listing's length, or 0; and the output at exit.
pub record Printing : Type 0 where
  pub outcome : Outcome
  pub machine : Machine
  pub bytes : ℕ
  pub output : List ℕ

-- A refusal leaves the output.
abbrev pub not_printed : Cause → Machine → List ℕ → Printing
not_printed cause r out = record { outcome = Refused cause; machine = r; bytes = 0; output = out }

-- The listing is written, and output beyond it stays.
abbrev pub printed : Machine → List ℕ → List ℕ → Printing
printed r text out = record { outcome = Done; machine = r; bytes = length text; output = text ++ drop (length text) out }

-- 8 where the output is shorter than the listing.
unfoldable pub listed : Machine → List ℕ → List ℕ → Printing
listed r text out = unless (leb (length text) (length out)) (not_printed ShortOutput r out) (printed r text out)

-- Print for the label ℓ: 7 where the record is not fit, 6 where lent words or labels are shorter than the size, then 8.
unfoldable pub print_for : ℕ → Machine → Bank → List ℕ → Printing
print_for ℓ r m out =
    unless (well_formed r) (not_printed IllFormed r out)
    (unless (lent_whole r.fixed.size m) (not_printed ShortMemory r out) (listed r (listing_for ℓ (state_of r m)) out))

-- Print.
abbrev pub print : Machine → Bank → List ℕ → Printing
print r m out = print_for highest r m out
