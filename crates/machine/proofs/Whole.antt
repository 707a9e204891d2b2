-- Laws about the whole record: what a call answers.
-- Assumes nothing.
use Prim.Native.Nat.{ℕ, ◌+◌, ◌-◌}
use mathlib.Core.Path.{◌≡◌, refl, sym, ap, ◌∙◌}
use mathlib.Core.Bool.{true}
use mathlib.Core.List.{List}
use native.Mathlib.Nat.{le_refl}
use Rattle.model.specs.declared.Control.{Control}
use Rattle.model.specs.declared.Request.{Request}
use Rattle.model.specs.declared.Request.TheVariants.{Step, Run, RunTo}
use lib.Dec.{ltb}
use borrow.Author.Tests.{le-ltb, ltb-true}
use Rattle.model.specs.Record.{State, machine_of, lent}
use Rattle.model.specs.declared.Registers.{Registers}
use Rattle.model.specs.Registers.{state_over}
use Rattle.model.specs.WellFormed.{well_formed, lent_whole}
use Rattle.model.specs.Step.{run, run_to}
use Rattle.model.specs.Answer.{work}
use Rattle.model.proofs.Truth.{choice}
use Rattle.model.proofs.Ready.{fit}
use Rattle.model.proofs.RunTo.{unbarred, past_stays}
use Rattle.machine_record.specs.declared.Machine.{Machine}
use Rattle.pacing.specs.declared.Pace.{Pace}
use Rattle.pacing.proofs.Fitting.{ready_fitting}
use Rattle.engine.specs.Advance.{paced, advanced}
use Rattle.machine_record.specs.Struct.{record_of}
use Rattle.machine.specs.Inner.Carried.{pace_of, Carried}

-- The steps at a request's pace are what is asked for: of a run the limit bars none, and a run to a tick that is past does
-- nothing.
paced_work : (q : Request) (s : State) → well_formed (machine_of s) ≡ true → paced (pace_of q s.fixed.limit) s ≡ work q s
unfolding run run_to
paced_work Step s w = refl
paced_work Run s w =
    let f = fit (machine_of s) w in
    rw (le-ltb s.fixed.limit s.control.clock f.clock)
    (unbarred s.fixed.limit (s.fixed.limit - s.control.clock + 1) s f.clock (le_refl _))
paced_work (RunTo k) s w =
    choice (λ (t : State). t ≡ run_to k s) (ltb k s.control.clock) _ _
    (λ e. sym (past_stays k s (fit (machine_of s) w) (ltb-true k s.control.clock e))) (λ e. refl)

pub carried_of : {q : Request} {m : Machine} {pace : Pace} {words marks : List ℕ} {control : Control} {registers : Registers} {words' : List ℕ}
    → well_formed (record_of m) ≡ true → lent_whole m.fixed.size (lent words marks) ≡ true → pace ≡ pace_of q m.fixed.limit
    → state_over m.fixed control registers words' marks ≡ advanced pace (state_over m.fixed m.control m.registers words marks)
    → Carried q m words marks (record { fixed = m.fixed; control = control; registers = registers }) words' marks
carried_of {q} {m} {pace} {words} {marks} {control} {registers} {words'} w l e h =
    record { machine = ap machine_of there; memory = ap (λ (s : State). s.memory) there }
  where
    there : state_over m.fixed control registers words' marks ≡ work q (state_over m.fixed m.control m.registers words marks)
    there =
        let s = state_over m.fixed m.control m.registers words marks in
        h ∙ rw (ready_fitting s w l, e) (paced_work q s w)
