-- A listing for one viewer: an image loaded, run to a tick and listed for a label.
-- Assumes nothing.
use Rattle.std.specs.Prelude.{ℕ, List, [], ◌∷◌, ◌++◌, leb, length, drop}
use Rattle.causes.specs.declared.Cause.TheVariants.{TickAboveLimit}
use Rattle.causes.specs.Causes.{Outcome, Refused, number_of, is_done}
use Rattle.causes.specs.Tests.{unless}
use Rattle.model.specs.Numbers.{letter_x}
use Rattle.model.specs.Record.{Bank, State, machine_of}
use Rattle.model.specs.Step.{run_to}
use Rattle.model.specs.Load.{Loading, load}
use Rattle.model.specs.Listing.{line, listing_for, listed}
use Rattle.model.specs.Program.{state_of_load, program_memory, Replied}

-- ---- an image by a tick

-- What an image comes to: a refusal, with its line or the limit, and the lent memory; or a state.
pub data Look : Type 0 where
  refused : Outcome → ℕ → Bank → Look
  arrived : State → Look

-- An image by tick k: the load's refusals, then 10 where k is above the limit, with the limit and memory as loaded; else
-- the state at k.
unfoldable pub look : ℕ → Loading → Look
look k a =
    let s = state_of_load a in
    unless (is_done a.outcome) (refused a.outcome a.line a.memory)
    (unless (leb k s.fixed.limit) (refused (Refused TickAboveLimit) s.fixed.limit s.memory) (arrived (run_to k s)))

-- ---- the answer

-- The answer of a view: its outcome; the line of the load's refusal, the limit where the tick is above it, or 0; the
-- listing's length, or 0; the output and the lent memory at exit.
pub record View : Type 0 where
  pub outcome : Outcome
  pub value : ℕ
  pub bytes : ℕ
  pub output : List ℕ
  pub memory : Bank

-- A refusal leaves the output. A state is listed for ℓ, or where the output is too short that is 8; memory is the state's
-- either way.
abbrev pub view_of : ℕ → Look → List ℕ → View
view_of ℓ (refused outcome value m) out = record { outcome = outcome; value = value; bytes = 0; output = out; memory = m }
view_of ℓ (arrived s) out =
    let p = listed (machine_of s) (listing_for ℓ s) out in
    record { outcome = p.outcome; value = 0; bytes = p.bytes; output = p.output; memory = s.memory }

-- The view of a loaded image from ℓ at tick k.
unfoldable pub view_load : ℕ → ℕ → Loading → List ℕ → View
view_load ℓ k a out = view_of ℓ (look k a) out

-- The view of a text.
unfoldable pub view : ℕ → ℕ → List ℕ → Bank → List ℕ → View
view ℓ k text m out = view_load ℓ k (load text m) out

-- ---- the program

-- What the program `viewing` prints: the listing for ℓ, or `X,number,line`, or `X,10,limit`.
abbrev pub view_reply : ℕ → Look → List ℕ
view_reply ℓ (refused outcome value m) = line letter_x (number_of outcome ∷ value ∷ [])
view_reply ℓ (arrived s) = listing_for ℓ s

-- A text viewed in the program's memory: how many bytes, and the output that holds them at its start.
unfoldable pub view_alone : ℕ → ℕ → List ℕ → List ℕ → Replied
view_alone ℓ k text out =
    let o = view_reply ℓ (look k (load text program_memory)) in record { bytes = length o; output = o ++ drop (length o) out }
