-- Which decisions leave the labels of the registers as they are.
-- Assumes nothing.
use mathlib.Core.Path.{◌≡◌, refl}
use mathlib.Core.Bool.{false}
use Rattle.model.specs.Record.{State}
use Rattle.model.specs.Ops.{Write}
use Rattle.model.specs.Step.{written, write_of, cause_allowed, cause_write}
use Rattle.model.proofs.Truth.{choice, clash}
use Rattle.parts.specs.declared.stages.Change.TheVariants.{Pass, SetLabel, Goto, Enter, OpenUpcall, OpenGate, CloseGate, Stop}
use Rattle.parts.specs.declared.stages.Decision.{Decision}
use Rattle.parts.specs.declared.stages.Decision.TheVariants.{Spend, Stall, Close, Carry}
use Rattle.parts.specs.Stages.{decision_of}
use Rattle.pacing.specs.SetsLabel.{sets_label}

-- A decision that sets no label leaves those of the registers.
pub keeps_labels : (s : State) (d : Decision) → sets_label d ≡ false → (written s (write_of s (decision_of d))).registers.labels ≡ s.registers.labels
unfolding written write_of cause_write
keeps_labels s Spend e = refl
keeps_labels s (Stall why) e = refl
keeps_labels s (Close cause) e =
    choice (λ (x : Write). (written s x).registers.labels ≡ s.registers.labels) (cause_allowed s) _ _ (λ b. refl) (λ b. refl)
keeps_labels s (Carry ticks Pass) e = refl
keeps_labels s (Carry ticks (SetLabel a l)) e = clash refl e
keeps_labels s (Carry ticks (Goto k)) e = refl
keeps_labels s (Carry ticks (Enter q)) e = refl
keeps_labels s (Carry ticks (OpenUpcall k q t)) e = refl
keeps_labels s (Carry ticks (OpenGate k q)) e = refl
keeps_labels s (Carry ticks CloseGate) e = refl
keeps_labels s (Carry ticks Stop) e = refl
