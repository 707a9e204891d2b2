-- Laws about common ops done for as long as they come, and one step more: the steps that are left are those of the state
-- where they end, and the hot loop stops where the next step does no common op.
-- Assumes nothing.
use Prim.Native.Nat.{ℕ, zero, suc, ◌+◌, ◌-◌, ◌<◌}
use mathlib.Core.Path.{◌≡◌, refl, sym, ap, ◌∙◌}
use mathlib.Core.Logic.{⊎_elim}
use mathlib.Core.Bool.{true, false}
use mathlib.Core.List.{List, [], ◌∷◌}
use native.Mathlib.Omega.{arith}
use lib.Dec.{eqb}
use lib.ListN.{get_elem?}
use borrow.Author.Tests.{ne_eqb, eqb-true, eqb-false, le-ltb, lt-ltb}
use Rattle.model.specs.Record.{State}
use Rattle.model.specs.Word.{Op, immediate, arithmetic, load, store, branch, jump, read_clock, set_label, set_pair, upcall, end_upcall, gate_call, gate_return, halt, ops, decode, op_field}
use Rattle.model.specs.Step.{Fetched, failed, fetched, known, fetch, running, decide, step, steps}
use Rattle.certificates.specs.Certificate.{is_relabelling}
use Rattle.model.proofs.Truth.{choice, either, clash}
use Rattle.parts.specs.declared.stages.Reason.{Reason}
use Rattle.parts.specs.declared.stages.Reason.TheVariants.{Out, Late, Outside, Unreadable, Failed, Rest}
use Rattle.parts.specs.Stages.{fetches_common}
use Rattle.sprint.specs.Skim.{is_common, Skim, skim}
use Rattle.sprint.specs.Sprint.{Stopped}
use Rattle.pacing.specs.Pace.{relabels_at}
use Rattle.engine.specs.Stride.{fetches_relabelling, ends, stride}

-- So many steps are those that are left after the common ops.
pub skim_steps : (n : ℕ) (s : State) → steps n s ≡ steps (skim n s).left (skim n s).state
unfolding skim steps
skim_steps zero s = refl
skim_steps (suc n) s =
    choice (λ (k : Skim). steps n (step s) ≡ steps k.left k.state) (is_common s) _ _ (λ c. skim_steps n (step s)) (λ c. refl)

-- Of some common ops, the first.
pub skim_first : (n : ℕ) (s : State) {t : State} → skim (suc n) s ≡ record { state = t; left = 0 }
    → (is_common s ≡ true) × (skim n (step s) ≡ record { state = t; left = 0 })
unfolding skim
skim_first n s {t} e =
    ⊎_elim (λ (c : is_common s ≡ true). (c, (rw c at e)))
    (λ (c : is_common s ≡ false). absurd (none_left (ap (λ (k : Skim). k.left) (rw c at e))))
    (either (is_common s))
  where
    none_left : suc n ≡ 0 → ⊥
    none_left z = omega (arith, z)

-- Behind so many common ops as many more are skimmed as from where they lead.
pub skim_behind : (n m : ℕ) (s : State) {t : State} → skim n s ≡ record { state = t; left = 0 } → skim (n + m) s ≡ skim m t
unfolding skim
skim_behind zero m s e = let z : 0 + m ≡ m = omega arith in ap (λ (x : ℕ). skim x s) z ∙ ap (λ (k : Skim). skim m k.state) e
skim_behind (suc n) m s e =
    let z : suc n + m ≡ suc (n + m) = omega arith in
    let h = skim_first n s e in
    ap (λ (x : ℕ). skim x s) z ∙ rw h.0 (skim_behind n m (step s) h.1)

-- Where the next step does no common op nothing is skimmed.
pub skim_stays : (n : ℕ) (s : State) → is_common s ≡ false → skim n s ≡ record { state = s; left = n }
unfolding skim
skim_stays zero s e = refl
skim_stays (suc n) s e = rw e

-- An ended record does none.
pub ended_uncommon : (s : State) → running s ≡ false → is_common s ≡ false
unfolding is_common decide
ended_uncommon s e = rw e

-- ---- words that relabel

-- A common op doesn't.
pub common_keeps : (f : Fetched) → fetches_common f ≡ true → fetches_relabelling f ≡ false
common_keeps (failed why) e = refl
common_keeps (fetched w immediate) e = refl
common_keeps (fetched w (arithmetic f)) e = refl
common_keeps (fetched w load) e = refl
common_keeps (fetched w store) e = refl
common_keeps (fetched w (branch f)) e = refl
common_keeps (fetched w jump) e = refl
common_keeps (fetched w read_clock) e = refl
common_keeps (fetched w (set_label f)) e = clash refl (sym e)
common_keeps (fetched w set_pair) e = refl
common_keeps (fetched w upcall) e = refl
common_keeps (fetched w end_upcall) e = refl
common_keeps (fetched w gate_call) e = refl
common_keeps (fetched w gate_return) e = refl
common_keeps (fetched w halt) e = refl

-- None of these ops does.
abbrev AllKeep : List Op → Type 0
AllKeep [] = Unit {0}
AllKeep (op ∷ more) = (is_relabelling op ≡ false) × AllKeep more

-- None of these ops does, but perhaps the one at i.
abbrev NoneBut : ℕ → List Op → Type 0
NoneBut i [] = Unit {0}
NoneBut zero (op ∷ more) = AllKeep more
NoneBut (suc i) (op ∷ more) = (is_relabelling op ≡ false) × NoneBut i more

at_keeping : (w k : ℕ) (xs : List Op) → AllKeep xs → fetches_relabelling (known w (get_elem? xs k)) ≡ false
at_keeping w zero [] h = refl
at_keeping w (suc k) [] h = refl
at_keeping w zero (op ∷ xs) h = h.0
at_keeping w (suc k) (op ∷ xs) h = at_keeping w k xs h.1

elsewhere_keeping : (w i k : ℕ) (xs : List Op) → NoneBut i xs → (k ≡ i → ⊥) → fetches_relabelling (known w (get_elem? xs k)) ≡ false
elsewhere_keeping w zero k [] h d = at_keeping w k [] tt
elsewhere_keeping w (suc i) k [] h d = at_keeping w k [] tt
elsewhere_keeping w zero zero (op ∷ xs) h d = absurd (d refl)
elsewhere_keeping w zero (suc k) (op ∷ xs) h d = at_keeping w k xs h
elsewhere_keeping w (suc i) zero (op ∷ xs) h d = h.0
elsewhere_keeping w (suc i) (suc k) (op ∷ xs) h d = elsewhere_keeping w i k xs h.1 (λ e. d (ap suc e))

-- The op that relabels is number 16.
pub relabels_number : (w n : ℕ) → eqb n 16 ≡ fetches_relabelling (known w (decode n))
unfolding decode
relabels_number w zero = refl
relabels_number w (suc k) =
    ⊎_elim
    (λ (e : eqb (suc k) 16 ≡ true). let i : k ≡ 15 = omega (arith, eqb-true (suc k) 16 e) in rw i)
    (λ (e : eqb (suc k) 16 ≡ false).
    let d : suc k ≡ 16 → ⊥ = eqb-false (suc k) 16 e in
    e ∙ sym (elsewhere_keeping w 15 k ops (refl, (refl, (refl, (refl, (refl, (refl, (refl, (refl, (refl, (refl, (refl, (refl, (refl, (refl, (refl, (refl, (refl, (refl, (refl, (refl, (refl, (refl, (refl, tt))))))))))))))))))))))) (λ i. d (ap suc i))))
    (either (eqb (suc k) 16))

-- A reason to stop: whether the next word relabels.
pub stopped_relabels : (reason : Reason) (deadline : ℕ) (s : State) → Stopped reason deadline s → relabels_at reason ≡ fetches_relabelling (fetch s)
stopped_relabels Out deadline s e = absurd e
stopped_relabels Late deadline s e = sym (common_keeps (fetch s) (ap fetches_common e.fetches ∙ e.common))
stopped_relabels Outside deadline s e = rw e
stopped_relabels Unreadable deadline s e = rw e
stopped_relabels Failed deadline s e = sym (common_keeps (fetch s) e.1)
stopped_relabels (Rest w) deadline s e = relabels_number w (op_field w) ∙ ap fetches_relabelling (sym e.word)

-- ---- a stride

-- A stride from what is skimmed.
pub stride_ends : (n : ℕ) (s : State) {k : Skim} → skim n s ≡ k → ends n k ≡ true → stride n s ≡ k
unfolding stride
stride_ends n s e h = rw (e, h)

pub stride_goes : (n : ℕ) (s : State) {k : Skim} → skim n s ≡ k → ends n k ≡ false
    → stride n s ≡ record { state = step k.state; left = k.left - 1 }
unfolding stride
stride_goes n s e h = rw (e, h)

-- One of which nothing was skimmed does a step.
pub ends_first : (n : ℕ) (s : State) → 0 < n → ends n (record { state = s; left = n }) ≡ false
unfolding ends
ends_first n s h = rw (ne_eqb n 0 (omega arith), le-ltb n n (omega arith))

-- One with steps left ends where some were skimmed and the next word relabels.
pub ends_there : (n left : ℕ) (s : State) → 0 < left → left < n → ends n (record { state = s; left = left }) ≡ fetches_relabelling (fetch s)
unfolding ends
ends_there n left s h l = rw (ne_eqb left 0 (omega arith), lt-ltb left n l)
