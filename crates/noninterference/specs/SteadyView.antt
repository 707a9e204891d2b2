-- The promise to a viewer: two images which the theorem calls alike list the same at every tick.
-- Assumes nothing.
use Rattle.std.specs.Prelude.{ℕ, ◌≡◌, List, [], ◌∷◌}
use Rattle.model.specs.declared.Request.TheVariants.{Run}
use Rattle.model.specs.Record.{Bank}
use Rattle.model.specs.Program.{Image, load_image, Accepted, state_of_load}
use Rattle.model.specs.Seen.{LowEquivalent, SameSetting}
use Rattle.model.specs.View.{View, view_load}
use Rattle.noninterference.specs.Noninterference.{Invocation, whole, trace, Provisos}

-- Two views in which the viewer finds no difference: everything but the lent memory is equal.
pub record SameView (v w : View) : Type 0 where
  pub outcome : v.outcome ≡ w.outcome
  pub value : v.value ≡ w.value
  pub bytes : v.bytes ≡ w.bytes
  pub output : v.output ≡ w.output

-- One call of run, with all of the memory.
abbrev pub run_call : Invocation
run_call = record { request = Run; words = whole; labels = whole }

-- For any two accepted images of equal setting that are alike at or below ℓ, and whose runs meet the provisos up to k: the
-- two views from ℓ at k are the same, whatever output they get.
abbrev pub SteadyView : Type 0
SteadyView =
    (ℓ k : ℕ) (image image' : Image) (memory memory' : Bank) → Accepted (load_image image memory)
    → Accepted (load_image image' memory')
    → (let s = state_of_load (load_image image memory) in
    let t = state_of_load (load_image image' memory') in
    SameSetting s t → LowEquivalent ℓ s t → Provisos ℓ k s (trace (run_call ∷ []) s) → Provisos ℓ k t (trace (run_call ∷ []) t)
    → (out : List ℕ) → SameView (view_load ℓ k (load_image image memory) out) (view_load ℓ k (load_image image' memory') out))
