-- The decision where the hot loop stopped, in the model's words: the first stage of a step, by the reason to stop.
-- Assumes nothing.
use Rattle.model.specs.Record.{State}
use Rattle.model.specs.Step as model
use Rattle.parts.specs.declared.stages.Reason.{Reason}
use Rattle.parts.specs.Stages.{plan_for}

-- What is decided for a reason to stop: what is planned, held against the limit.
abbrev pub decided : Reason → State → model.Decision
decided reason s = model.in_limit s (plan_for reason s)
