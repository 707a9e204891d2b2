-- What is asked for: which pace it is, by which tick a step has to finish, and where a stride stops.
-- Assumes nothing.
use Rattle.std.specs.Prelude.{ℕ, Bool, true, false, eqb}
use Rattle.model.specs.Word.{op_field}
use Rattle.parts.specs.declared.stages.Reason.{Reason}
use Rattle.parts.specs.declared.stages.Reason.TheVariants.{Out, Late, Outside, Unreadable, Failed, Rest}
use Rattle.parts.specs.Calls.{nearer}
use Rattle.pacing.specs.declared.Pace.{Pace}
use Rattle.pacing.specs.declared.Pace.TheVariants.{Once, Onward, Stride}

-- One step.
abbrev pub is_once : Pace → Bool
is_once Once = true
is_once (Onward k) = false
is_once Stride = false

-- A stride.
abbrev pub is_stride : Pace → Bool
is_stride Once = false
is_stride (Onward k) = false
is_stride Stride = true

-- The tick by which a step has to finish: the limit, or the nearer one of a run to a tick.
abbrev pub tick_of : Pace → ℕ → ℕ
tick_of Once limit = limit
tick_of (Onward k) limit = nearer k limit
tick_of Stride limit = limit

-- The number of the op that relabels.
abbrev pub relabel_op : ℕ
relabel_op = 16

-- The hot loop stopped at a word that relabels.
abbrev pub relabels_at : Reason → Bool
relabels_at Out = false
relabels_at Late = false
relabels_at Outside = false
relabels_at Unreadable = false
relabels_at Failed = false
relabels_at (Rest w) = eqb (op_field w) relabel_op
