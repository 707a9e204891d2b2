-- Common ops for as long as they come and one step more, which the engine promises for certificates.
-- Assumes nothing.
use Rattle.std.specs.Prelude.{ℕ, ◌+◌, ◌-◌, Bool, false, ◌&&◌, ◌||◌, cond, ltb, eqb}
use Rattle.model.specs.Record.{State}
use Rattle.model.specs.Step.{Fetched, failed, fetched, fetch, step}
use Rattle.certificates.specs.Certificate.{is_relabelling}
use Rattle.sprint.specs.Skim.{Skim, skim}

-- The word that was fetched relabels.
abbrev pub fetches_relabelling : Fetched → Bool
fetches_relabelling (failed why) = false
fetches_relabelling (fetched w op) = is_relabelling op

-- After so many of n steps the stride ends: none is left, or a word comes that relabels and isn't the first.
unfoldable pub ends : ℕ → Skim → Bool
ends n k = eqb k.left 0 || ltb k.left n && fetches_relabelling (fetch k.state)

-- So many steps at the most: common ops, for as long as they come, and one step of what comes then.
unfoldable pub stride : ℕ → State → Skim
stride n s =
    cond (ends n (skim n s)) (skim n s) (record { state = step (skim n s).state; left = (skim n s).left - 1 })

-- As many steps as a run can take.
abbrev pub run_count : State → ℕ
run_count s = s.fixed.limit - s.control.clock + 1

-- A stride, as long as the run has steps.
abbrev pub strode : State → State
strode s = (stride (run_count s) s).state
