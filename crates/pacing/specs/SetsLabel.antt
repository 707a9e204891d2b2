-- Which decisions set a label, so that the turned labels are no longer those of the registers.
-- Assumes nothing.
use Rattle.std.specs.Prelude.{Bool, true, false}
use Rattle.parts.specs.declared.stages.Change.{Change}
use Rattle.parts.specs.declared.stages.Change.TheVariants.{Pass, SetLabel, Goto, Enter, OpenUpcall, OpenGate, CloseGate, Stop}
use Rattle.parts.specs.declared.stages.Decision.{Decision}
use Rattle.parts.specs.declared.stages.Decision.TheVariants.{Spend, Stall, Close, Carry}

-- A change sets a label.
abbrev pub changes_label : Change → Bool
changes_label Pass = false
changes_label (SetLabel a l) = true
changes_label (Goto k) = false
changes_label (Enter q) = false
changes_label (OpenUpcall k q e) = false
changes_label (OpenGate k q) = false
changes_label CloseGate = false
changes_label Stop = false

-- A decision does.
abbrev pub sets_label : Decision → Bool
sets_label Spend = false
sets_label (Stall why) = false
sets_label (Close cause) = false
sets_label (Carry ticks change) = changes_label change
