-- What a label sees of a control, of an entry and of a bank, each by itself: a listing's code is lent them one by one. Laws
-- and contracts use it; the paper's machine sees a whole state.
-- Assumes nothing.
use Rattle.std.specs.Prelude.{ℕ, cond, get_or}
use Rattle.model.specs.declared.Control.{Control}
use Rattle.model.specs.Record.{Bank}
use Rattle.model.specs.Seen.{within, Seen, hidden, shown, SeenControl, unseen, seen}

-- What ℓ sees of a control: all of it where p flows to ℓ, else nothing.
unfoldable pub control_seen : ℕ → Control → SeenControl
control_seen ℓ c = cond (within ℓ c.pair.pc) (seen c) unseen

-- What ℓ sees of an entry with this label and value: both where the label flows to ℓ, else nothing.
unfoldable pub entry_seen : ℕ → ℕ → ℕ → Seen
entry_seen ℓ label value = cond (within ℓ label) (shown label value) hidden

-- What ℓ sees of the entry k of a bank.
abbrev pub bank_seen : ℕ → Bank → ℕ → Seen
bank_seen ℓ b k = entry_seen ℓ (get_or b.labels k 0) (get_or b.values k 0)

-- The entry k of a bank, seen whatever its label.
abbrev pub all_seen : Bank → ℕ → Seen
all_seen b k = shown (get_or b.labels k 0) (get_or b.values k 0)
