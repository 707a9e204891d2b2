-- What a single op changes, as its function promises it: by the rows of the model's table.
-- Assumes nothing.
use Rattle.std.specs.Prelude.{ℕ, ◌+◌, ◌^◌, ◌<◌, cond}
use Rattle.model.specs.Record.{State}
use Rattle.model.specs.Word as words
use Rattle.model.specs.Ops as ops
use Rattle.parts.specs.declared.live.Live.{Live}
use Rattle.parts.specs.declared.stages.Change.{Change}
use Rattle.parts.specs.Stages.{Fits}
use Rattle.changes.specs.declared.rows.Rule.{Rule}
use Rattle.changes.specs.declared.rows.Rule.TheVariants.{Raise, Relabel}

-- The model's rule that a rule is.
abbrev pub rule_of : Rule → words.Rule
rule_of Raise = words.raise
rule_of Relabel = words.relabel

-- What a row's effect changes. The end of an upcall is none of them.
abbrev pub change_in : ops.Effect → ops.Change
change_in (ops.does change) = change
change_in ops.ends = ops.write ops.nothing

-- What a row changes: what its effect does where its check passes, and else nothing.
abbrev pub changed_by : ops.Row → ops.Change
changed_by row = cond row.check (change_in row.effect) (ops.write ops.nothing)

-- What the op in the word w changes in a state.
abbrev pub changed : words.Op → ℕ → State → ops.Change
changed op w s = changed_by (ops.table s w op)

-- Where there is a next pc, the change fits if it is carried out in so many ticks.
abbrev pub FitsIn : ℕ → Live → Change → Type 0
FitsIn ticks live r = live.pc + 1 < 2 ^ 32 → Fits r live (live.clock + ticks)
