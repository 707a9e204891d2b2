-- Common ops done for as long as they come, which is what the hot loop does.
-- Assumes nothing.
use Rattle.std.specs.Prelude.{ℕ, zero, suc, Bool, cond, ◌&&◌}
use Rattle.model.specs.Record.{State}
use Rattle.model.specs.Step.{fetch, is_carried, decide, step}
use Rattle.parts.specs.Stages.{fetches_common}

-- A step from this state does a common op: it is carried out, or it passes by.
unfoldable pub is_common : State → Bool
is_common s = is_carried (decide s) && fetches_common (fetch s)

-- Where such steps came to an end, and how many of those asked for were left.
pub record Skim : Type 0 where
  pub state : State
  pub left : ℕ

-- So many steps at the most, for as long as they do such ops.
unfoldable pub skim : ℕ → State → Skim
skim zero s = record { state = s; left = 0 }
skim (suc n) s = cond (is_common s) (skim n (step s)) (record { state = s; left = suc n })
