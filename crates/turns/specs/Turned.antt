-- The labels of the registers as the hot loop holds them.
-- Assumes nothing.
use Rattle.std.specs.Prelude.{◌≡◌, ℕ, ◌+◌, ◌<◌, List, slice_index}
use Rattle.labels.specs.Label.{label_count, restrictions, lacking}
use Rattle.model.specs.Numbers.{register_count}

-- The turned labels are those of the registers: the restrictions of each, and behind them those that each lacks.
pub record Mirrors (labels turned : List ℕ) : Type 0 where
  pub held : (i : ℕ) → i < register_count → slice_index turned i ≡ restrictions (slice_index labels i)
  pub lacks : (i : ℕ) → i < register_count → slice_index turned (i + register_count) ≡ lacking (slice_index labels i)
  pub below : (i : ℕ) → i < register_count → slice_index labels i < label_count
