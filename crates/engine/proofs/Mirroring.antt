-- The loop over the labels of the registers: what holds whenever its test is reached.
-- Assumes nothing.
use Prim.Native.Nat.{ℕ, ◌+◌, ◌≤◌, ◌<◌}
use mathlib.Core.Path.{◌≡◌}
use mathlib.Core.List.{List}
use lib.ListN.{length, get_or}
use Rattle.labels.specs.Label.{label_count, restrictions, lacking}
use Rattle.model.specs.Numbers.{register_count}

-- The first i labels are turned.
pub record Turning (labels turned : List ℕ) (i : ℕ) : Type 0 where
  pub long : length turned ≡ register_count + register_count
  pub few : i ≤ register_count
  pub held : (j : ℕ) → j < i → get_or turned j 0 ≡ restrictions (get_or labels j 0)
  pub lacks : (j : ℕ) → j < i → get_or turned (j + register_count) 0 ≡ lacking (get_or labels j 0)
  pub below : (j : ℕ) → j < i → get_or labels j 0 < label_count
