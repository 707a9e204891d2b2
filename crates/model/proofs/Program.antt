-- The laws that the program's parts fit together: a load that is accepted is run without a refusal, the state after the
-- run is printed unless the output is too short, and register 0 reads 0 throughout.
-- Assumes nothing.
use Prim.Native.Nat.{ℕ, ◌<◌}
use mathlib.Core.Path.{◌≡◌}
use mathlib.Core.Bool.{true}
use mathlib.Core.List.{List}
use Rattle.causes.specs.Causes.{Done}
use Rattle.labels.specs.Label.{label_count, lowest}
use Rattle.model.specs.Numbers.{zero_register}
use Rattle.model.specs.Record.{Bank, State, register, value_at, label_at, machine_of}
use Rattle.model.specs.WellFormed.{lent_whole}
use Rattle.model.specs.Step.{steps, run, run_to}
use Rattle.model.specs.Answer.{answer, done, run_answer, run_to_answer}
use Rattle.model.specs.Load.{Loading, load}
use Rattle.model.specs.HexLoad.{load_hex}
use Rattle.model.specs.Listing.{listing_for, listed, print_for}
use Rattle.model.specs.Program.{Image, load_image, Accepted, state_of_load}
use Rattle.model.proofs.Ready.{fits, whole_lent, Ready, zero_reads_lem}
use Rattle.model.proofs.Run.{steps_ready}
use Rattle.model.proofs.Load.{loaded_ready, load_loaded}
use Rattle.model.proofs.HexLoad.{hex_loaded, image_loaded}

-- A ready state's memory is lent whole.
lent : (s : State) → Ready s → lent_whole s.fixed.size s.memory ≡ true
lent s r = whole_lent _ s.memory r.words r.labels

-- A ready state is run without a refusal.
pub run_done : (s : State) → Ready s → run_answer (machine_of s) s.memory ≡ done (run s)
unfolding answer
run_done s r = rw (fits (machine_of s) r.fit, lent s r)

-- So is it run to a tick.
pub run_to_done : (k : ℕ) (s : State) → Ready s → run_to_answer k (machine_of s) s.memory ≡ done (run_to k s)
unfolding answer
run_to_done k s r = rw (fits (machine_of s) r.fit, lent s r)

-- A ready state is printed for a label unless the output is too short.
pub print_done : (ℓ : ℕ) (s : State) (out : List ℕ) → Ready s
    → print_for ℓ (machine_of s) s.memory out ≡ listed (machine_of s) (listing_for ℓ s) out
unfolding print_for
print_done ℓ s out r = rw (fits (machine_of s) r.fit, lent s r)

-- The state that an accepted load leaves is ready.
abbrev pub ReadyLoad : Loading → Type 0
ReadyLoad a = a.outcome ≡ Done → Ready (state_of_load a)

pub load_ready : (text : List ℕ) (m : Bank) → ReadyLoad (load text m)
load_ready text m e = loaded_ready (state_of_load (load text m)) (load_loaded text m e)

pub hex_ready : (text hex : List ℕ) (label : ℕ) (m : Bank) → label < label_count → ReadyLoad (load_hex text hex label m)
hex_ready text hex label m h e = loaded_ready (state_of_load (load_hex text hex label m)) (hex_loaded text hex label m h e)

-- From an accepted image on, register 0 reads 0 with the lowest label, after any number of steps.
pub always_zero : (image : Image) (m : Bank) → Accepted (load_image image m) → (n : ℕ)
    → (let s = steps n (state_of_load (load_image image m)) in
    (value_at s (register zero_register) ≡ 0) × (label_at s (register zero_register) ≡ lowest))
always_zero image m e n =
    let s = state_of_load (load_image image m) in zero_reads_lem _ (steps_ready n s (loaded_ready s (image_loaded image m e)))
