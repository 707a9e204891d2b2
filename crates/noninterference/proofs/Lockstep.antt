-- One step each of two states with one control whose labels are within ℓ, where nothing is downgraded: both steps leave one
-- control, and states that are alike.
-- Assumes nothing.
use Prim.Native.Nat.{ℕ}
use mathlib.Core.Path.{◌≡◌, refl, sym, ◌∙◌, subst}
use mathlib.Core.Logic.{◌⊎◌, inl, inr, ⊎_elim}
use mathlib.Core.Bool.{Bool, true, false}
use Rattle.model.specs.declared.Control.{Control}
use Rattle.model.specs.Record.{State, Location, label_at}
use Rattle.model.specs.Ops.{Write, label}
use Rattle.model.specs.Step.{decide, write_of, written, with_control, step}
use Rattle.model.specs.Seen.{within, SameSetting}
use Rattle.noninterference.specs.Noninterference.{StepProvisos, downgrades}
use Rattle.model.proofs.Truth.{either}
use Rattle.model.proofs.Ready.{Ready}
use Rattle.model.proofs.Legal.{Inside, LegalWrite, keeps, sets, marks}
use Rattle.model.proofs.WellFormed.{step_control}
use Rattle.model.proofs.Step.{step_write}
use Rattle.model.proofs.Sight as sight
use Rattle.model.proofs.Sight.{Alike, alike_sym, alike_trans, inside_exists, within_down, Visible, Hidden, Fits, hidden_write, visible_write}
use Rattle.model.proofs.Visible.{Together, decide_similar, control_same, label_set}
use Rattle.noninterference.proofs.Unseen.{legal_fits, step_written}

-- A label that is set where no downgrade is made: set outside where the old one was.
no_downgrade_lem : (ℓ : ℕ) (s : State) (x : Location) (l : ℕ) → Ready s → Inside s x → write_of s (decide s) ≡ label x l
    → StepProvisos ℓ s (step s) → within ℓ (label_at s x) ≡ false → within ℓ l ≡ false
unfolding downgrades
no_downgrade_lem ℓ s x l r i e p o =
    rw (inside_exists s x i, o, label_set s x l r i e) at (p.downgrade x)

-- A legal write is within sight or hidden.
sighted : (ℓ : ℕ) (s : State) {w : Write} → Ready s → write_of s (decide s) ≡ w → StepProvisos ℓ s (step s) → LegalWrite s w
    → Visible (within ℓ) s w ⊎ Hidden (within ℓ) s w
sighted ℓ s r e p keeps = inr sight.none
sighted ℓ s r e p (sets {x = x} i z h v) =
    ⊎_elim
    (λ (k : within ℓ (label_at s x) ≡ true). inl (sight.sets k))
    (λ (k : within ℓ (label_at s x) ≡ false). inr (sight.sets k))
    (either (within ℓ (label_at s x)))
sighted ℓ s r e p (marks {x = x} {l = l} i z h v n) =
    ⊎_elim
    (λ (k : within ℓ (label_at s x) ≡ true). inl (sight.marks k))
    (λ (k : within ℓ (label_at s x) ≡ false). inr (sight.marks k (no_downgrade_lem ℓ s x l r i e p k)))
    (either (within ℓ (label_at s x)))

-- Similar decisions leave states that are alike.
written_alike : {sees : ℕ → Bool} {s t : State} {w v : Write} → Alike sees s t → Fits s w → Fits t v → (Visible sees s w → v ≡ w)
    → (Visible sees t v → w ≡ v) → Visible sees s w ⊎ Hidden sees s w → Visible sees t v ⊎ Hidden sees t v → Alike sees (written s w) (written t v)
written_alike {sees} {s} {t} {w} {v} a f g there back (inl x) y =
    subst (λ (z : Write). Alike sees (written s w) (written t z)) (sym (there x))
    (visible_write a f (subst (Fits t) (there x) g) x)
written_alike {sees} {s} {t} {w} {v} a f g there back (inr x) (inl y) =
    subst (λ (z : Write). Alike sees (written s z) (written t v)) (sym (back y))
    (alike_sym (visible_write (alike_sym a) g (subst (Fits s) (back y) f) y))
written_alike a f g there back (inr x) (inr y) = alike_trans (hidden_write f x) (alike_trans a (alike_sym (hidden_write g y)))

-- One step each, from states under one control whose labels are within ℓ: both leave one control.
together_control : (ℓ : ℕ) (c : Control) (a b : State) → Together (within ℓ) c a b → within ℓ c.pair.timing ≡ true
    → (step (with_control a c)).control ≡ (step (with_control b c)).control
together_control ℓ c a b h m = step_control (with_control a c) ∙ control_same h m ∙ sym (step_control (with_control b c))

-- Both leave states that are alike.
together_alike : (ℓ : ℕ) (c : Control) (a b : State) → Together (within ℓ) c a b → within ℓ c.pair.timing ≡ true
    → Ready (with_control a c) → Ready (with_control b c) → StepProvisos ℓ (with_control a c) (step (with_control a c)) → StepProvisos ℓ (with_control b c) (step (with_control b c))
    → Alike (within ℓ) (step (with_control a c)) (step (with_control b c))
together_alike ℓ c a b h m r q p u =
    let x = step_write (with_control a c) r in
    let y = step_write (with_control b c) q in
    alike_trans (step_written (within ℓ) (with_control a c))
    (alike_trans
    (written_alike h.alike (legal_fits (with_control a c) r x) (legal_fits (with_control b c) q y)
    (decide_similar h m).there (decide_similar h m).back
    (sighted ℓ (with_control a c) r refl p x) (sighted ℓ (with_control b c) q refl u y))
    (alike_sym (step_written (within ℓ) (with_control b c))))

-- The same of two states with equal control.
module _ (ℓ : ℕ) (s t : State) (e : s.control ≡ t.control) (pc : within ℓ s.control.pair.pc ≡ true)
    (timing : within ℓ s.control.pair.timing ≡ true) (same : SameSetting s t) where
  together : Alike (within ℓ) s (with_control t s.control) → Together (within ℓ) s.control s t
  together al = record { down = within_down ℓ; pc = pc; setting = same; alike = al }

  pub visible_control : Alike (within ℓ) s t → (step s).control ≡ (step t).control
  visible_control =
      subst
      (λ (c : Control). Alike (within ℓ) s (with_control t c) → (step s).control ≡ (step (with_control t c)).control)
      e
      (λ al. together_control ℓ s.control s t (together al) timing)

  pub visible_alike : Ready s → StepProvisos ℓ s (step s) → Alike (within ℓ) s t → Ready t → StepProvisos ℓ t (step t)
      → Alike (within ℓ) (step s) (step t)
  visible_alike r p =
      subst
      (λ (c : Control).
      Alike (within ℓ) s (with_control t c) → Ready (with_control t c) → StepProvisos ℓ (with_control t c) (step (with_control t c))
      → Alike (within ℓ) (step s) (step (with_control t c)))
      e
      (λ al q u. together_alike ℓ s.control s t (together al) timing r q p u)
