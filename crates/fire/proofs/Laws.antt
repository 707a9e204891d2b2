-- What is done after a load in turn is the load fired.
-- Assumes nothing.
use Prim.Native.Nat.{ℕ}
use mathlib.Core.Path.{◌≡◌, refl, ap, ◌∙◌}
use mathlib.Core.Logic.{⊎_elim}
use mathlib.Core.Bool.{Bool, true, false, cond}
use mathlib.Core.List.{List, [], ◌∷◌, ◌++◌}
use lib.Dec.{leb}
use lib.ListN.{length, drop}
use Rattle.causes.specs.Causes.{Done, number_of, is_done}
use Rattle.causes.proofs.Numbers.{is_done_lem}
use Rattle.model.specs.Record.{Bank}
use Rattle.model.specs.Step.{run}
use Rattle.model.specs.Load.{Loading}
use Rattle.model.specs.Listing.{line, listing, Printing, listed}
use Rattle.model.specs.Program.{state_of_load, reply, memory_after, Firing, fire_load}
use Rattle.model.proofs.Truth.{either}
use Rattle.model.proofs.Ready.{Ready}
use Rattle.model.proofs.Run.{run_ready}
use Rattle.model.proofs.Program.{ReadyLoad, run_done, print_done}
use Rattle.writer.specs.Writing.{answer, over}
use Rattle.fire.specs.InTurn.{refusing, wrote, printed, in_turn}

-- Either way of a choice.
choice_printed : (b : Bool) (p q : Printing) (m : Bank) → printed (cond b p q) m ≡ cond b (printed p m) (printed q m)
choice_printed true p q m = refl
choice_printed false p q m = refl

choice_wrote : (b : Bool) (o out : List ℕ) (m : Bank)
    → wrote (cond b (answer (length o) (over o out)) (answer 0 out)) m
    ≡ cond b (record { bytes = length o; output = o ++ drop (length o) out; memory = m })
    (record { bytes = 0; output = out; memory = m })
unfolding over
choice_wrote true o out m = refl
choice_wrote false o out m = refl

-- A refused load: the line writer wrote its number and line.
refused_in_turn : (a : Loading) (out : List ℕ) → is_done a.outcome ≡ false → in_turn a out ≡ fire_load a out
unfolding in_turn refusing fire_load reply memory_after
refused_in_turn a out h =
    let o = line 88 (number_of a.outcome ∷ a.line ∷ []) in
    rw h (choice_wrote (leb (length o) (length out)) o out a.memory)

-- An accepted load: its state was run, and the state after the run printed.
accepted_in_turn : (a : Loading) (out : List ℕ) → a.outcome ≡ Done → Ready (state_of_load a) → in_turn a out ≡ fire_load a out
unfolding in_turn fire_load reply memory_after listed
accepted_in_turn a out z r =
    let s = state_of_load a in
    rw (z, run_done s r, print_done _ (run s) out (run_ready s r))
    (choice_printed (leb (length (listing (run s))) (length out)) _ _ (run s).memory)

-- Either is the load fired.
pub in_turn_lem : (a : Loading) → ReadyLoad a → (out : List ℕ) → in_turn a out ≡ fire_load a out
in_turn_lem a r out =
    ⊎_elim (λ (e : is_done a.outcome ≡ true). let z = is_done_lem a.outcome e in accepted_in_turn a out z (r z))
    (λ (e : is_done a.outcome ≡ false). refused_in_turn a out e) (either (is_done a.outcome))

-- So is what was fired so behind a load that gives this.
pub load_fired : {a : Loading} (b : Loading) (out : List ℕ) (f : Firing) → ReadyLoad b → a ≡ b → f ≡ in_turn a out
    → f ≡ fire_load b out
load_fired b out f r e g = g ∙ ap (λ (x : Loading). in_turn x out) e ∙ in_turn_lem b r out
