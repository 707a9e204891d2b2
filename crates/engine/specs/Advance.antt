-- The steps that are asked for, as the public call promises them.
-- Assumes nothing.
use Rattle.std.specs.Prelude.{ℕ, cond, List, ltb}
use Rattle.model.specs.declared.Fixed.{Fixed}
use Rattle.model.specs.declared.Registers.{Registers}
use Rattle.model.specs.Record.{State}
use Rattle.model.specs.Registers.{state_over}
use Rattle.model.specs.Step.{step, run_to}
use Rattle.pacing.specs.declared.Pace.{Pace}
use Rattle.pacing.specs.declared.Pace.TheVariants.{Once, Onward, Stride}
use Rattle.pacing.specs.Fitting.{fitting}
use Rattle.engine.specs.declared.Task.{Task}
use Rattle.engine.specs.Stride.{strode}

-- The steps at a pace: one; those of a run that finish by tick k, if the clock isn't past it; or a stride.
abbrev pub paced : Pace → State → State
paced Once s = step s
paced (Onward k) s = cond (ltb k s.control.clock) s (run_to k s)
paced Stride s = strode s

-- The steps of a state that fits. Any other stays as it is.
abbrev pub advanced : Pace → State → State
advanced pace s = cond (fitting s) (paced pace s) s

-- A task done, with these registers and this memory.
abbrev pub performed : Fixed → Task → Registers → List ℕ → List ℕ → State
performed fixed task registers words marks = advanced task.pace (state_over fixed task.start registers words marks)
