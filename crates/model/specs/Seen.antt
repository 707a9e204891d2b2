-- What a label sees: document 01, "What a label sees", its first paragraph; and the equal setting that the theorem asks for.
-- Assumes nothing.
use Rattle.std.specs.Prelude.{ℕ, ◌<◌, ◌≡◌, Bool, ◌&&◌, cond, ltb, get_or}
use Rattle.labels.specs.Label.{flows}
use Rattle.model.specs.Numbers.{register_count}
use Rattle.model.specs.declared.Control.{Control}
use Rattle.model.specs.Record.{State, Location, register, word, value_at, label_at}
use Rattle.model.specs.WellFormed.{no_gate}

-- A label is within ℓ when it flows to ℓ, else outside.
unfoldable pub within : ℕ → ℕ → Bool
within ℓ l = flows l ℓ

-- The location is one of the sixteen registers, or a word below the record's own size.
unfoldable pub exists : State → Location → Bool
exists s (register k) = ltb k register_count
exists s (word k) = ltb k s.fixed.size

-- What is seen of a location: nothing, or its label and value.
pub data Seen : Type 0 where
  hidden : Seen
  shown : ℕ → ℕ → Seen

-- One who sees the labels that pass a test sees which registers and words below the size have them, with labels and values.
unfoldable pub seen_by : (ℕ → Bool) → State → Location → Seen
seen_by sees s x = cond (exists s x && sees (label_at s x)) (shown (label_at s x) (value_at s x)) hidden

-- At ℓ one sees the labels flowing to ℓ.
abbrev pub seen_at : ℕ → State → Location → Seen
seen_at ℓ = seen_by (within ℓ)

-- What is seen of the control: nothing, or all of it, which is pc, pair, clock, both places for open calls, end and why.
pub data SeenControl : Type 0 where
  unseen : SeenControl
  seen : Control → SeenControl

-- At ℓ one sees whether p flows to ℓ, and if so pc, pair, clock, open calls, end and why.
unfoldable pub seen_control : ℕ → State → SeenControl
seen_control ℓ s = cond (within ℓ s.control.pair.pc) (seen s.control) unseen

-- Low-equivalent (the paper's alike at or below ℓ): the same is seen at ℓ of the one and of the other. Size, gates, error
-- pc and limit are not seen.
pub record LowEquivalent (ℓ : ℕ) (s t : State) : Type 0 where
  pub locations : (x : Location) → seen_at ℓ s x ≡ seen_at ℓ t x
  pub control : seen_control ℓ s ≡ seen_control ℓ t

-- Equal setting, which isn't seen: size, gates (their number and each of them), error pc and limit.
pub record SameSetting (s t : State) : Type 0 where
  pub size : s.fixed.size ≡ t.fixed.size
  pub limit : s.fixed.limit ≡ t.fixed.limit
  pub errorpc : s.fixed.errorpc ≡ t.fixed.errorpc
  pub count : s.fixed.count ≡ t.fixed.count
  pub gates : (k : ℕ) → k < s.fixed.count → get_or s.fixed.gates k no_gate ≡ get_or t.fixed.gates k no_gate
