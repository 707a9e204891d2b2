-- The newest of two open calls, and the tick by which a common op has to finish with a call open or none.
-- Assumes nothing.
use Rattle.std.specs.Prelude.{ℕ, Bool, cond, ltb}
use Rattle.model.specs.declared.Call.{Call}
use Rattle.model.specs.Record.{is_empty}

-- The newest of the calls in the two places.
abbrev pub newest_of : Call → Call → Call
newest_of first second = cond (is_empty second) first second

-- The nearer of two ticks.
abbrev pub nearer : ℕ → ℕ → ℕ
nearer k limit = cond (ltb k limit) k limit

-- The tick by which a common op has to finish: the limit, or in an upcall its end tick if that is below the limit.
abbrev pub deadline_of : Bool → ℕ → ℕ → ℕ
deadline_of up e limit = cond up (nearer e limit) limit
