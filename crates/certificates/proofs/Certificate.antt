-- The theorems on certificates: specs/Certificate.antt states them. The files below this one prove them: Attempts takes a
-- step that attempts no release, Watch the first break of one run, and Twin shows that alike machines have one first break.
-- Assumes nothing.
use Prim.Native.Nat.{ℕ, zero, suc, ◌<◌, ◌≤◌}
use mathlib.Core.Path.{◌≡◌, sym, ap, ◌∙◌, subst}
use mathlib.Core.Logic.{⊎_elim}
use mathlib.Core.Bool.{true, false}
use mathlib.Core.List.{List}
use native.Mathlib.Omega.{arith}
use lib.Dec.{leb, ltb, eqb}
use borrow.Author.Tests.{leb-true, leb-false, ltb-true, ltb-false, eqb-true, eqb-false}
use Rattle.model.specs.Record.{State}
use Rattle.model.specs.Step.{step, steps}
use Rattle.model.specs.Program.{load_image, state_of_load}
use Rattle.model.specs.Seen.{LowEquivalent, SameSetting}
use Rattle.noninterference.specs.Noninterference.{Invocation, trace, StepsProvisos, Provisos}
use Rattle.certificates.specs.Certificate.{Certified, Certificate, whole, breaks, break_at, certify, CertifiedNoninterference, CertifyTells, OneCertificate}
use Rattle.model.proofs.Truth.{either, clash}
use Rattle.model.proofs.Ready.{Ready}
use Rattle.model.proofs.Step.{step_ready, step_passes}
use Rattle.model.proofs.Load.{Loaded, loaded_ready}
use Rattle.model.proofs.HexLoad.{image_loaded}
use Rattle.noninterference.proofs.Noninterference.{loaded_outside_lem, from_loaded_states}
use Rattle.model.proofs.Visible.{setting_sym}
use Rattle.noninterference.proofs.Paths.{Both}
use Rattle.noninterference.proofs.Trace.{path, trace_row}
use Rattle.certificates.proofs.Attempts.{step_provisos}
use Rattle.certificates.proofs.Watch.{Breaks, break_cause, breaks_cause, certify_breaks, certify_found, certify_broken, certified_until, certified_unbroken, certified_step, uncertified}
use Rattle.certificates.proofs.Twin.{twin_breaks, first_twins, first_broken}

-- ---- what `certify` tells

module _ (ℓ : ℕ) (s : State) (r : Ready s) (k : ℕ) where
  -- With cause 0 nothing breaks.
  no_cause : (certify ℓ s).cause ≡ 0 → Certified ℓ k s
  no_cause e =
      ⊎_elim
      (λ (b : breaks ℓ s ≡ true).
      absurd ((break_cause ℓ s).0 (ap (λ (c : Certificate). c.cause) (sym (certify_broken ℓ s b)) ∙ e)))
      (λ (b : breaks ℓ s ≡ false).
      certified_until ℓ k s r b
      (λ c x. absurd (breaks_cause x (ap (λ (d : Certificate). d.cause) (sym (certify_found ℓ s r b x)) ∙ e))))
      (either (breaks ℓ s))

  -- With another cause the first break is the one that it tells.
  before : ((certify ℓ s).cause ≡ 0 → ⊥) → s.control.clock ≤ k → k < (certify ℓ s).tick → Certified ℓ k s
  before n h l =
      ⊎_elim
      (λ (b : breaks ℓ s ≡ true).
      let e = ap (λ (c : Certificate). c.tick) (certify_broken ℓ s b) ∙ (break_cause ℓ s).1 in absurd (omega arith))
      (λ (b : breaks ℓ s ≡ false).
      certified_until ℓ k s r b (λ c x. subst (λ (d : Certificate). k < d.tick) (certify_found ℓ s r b x) l))
      (either (breaks ℓ s))

  from : ((certify ℓ s).cause ≡ 0 → ⊥) → (certify ℓ s).tick ≤ k → Certified ℓ k s → ⊥
  unfolding steps
  from n l h =
      ⊎_elim
      (λ (b : breaks ℓ s ≡ true).
      let e = ap (λ (c : Certificate). c.tick) (certify_broken ℓ s b) ∙ (break_cause ℓ s).1 in
      clash b (certified_unbroken ℓ k 0 s h (omega arith)))
      (λ (b : breaks ℓ s ≡ false).
      ⊎_elim
      (λ (e : certify ℓ s ≡ whole). absurd (n (ap (λ (c : Certificate). c.cause) e)))
      (λ (x : Breaks ℓ s (certify ℓ s)). uncertified x l h)
      (certify_breaks ℓ s r b))
      (either (breaks ℓ s))

-- A tick is at or after the clock of a loaded state.
loaded_clock : (k : ℕ) (s : State) → Loaded s → s.control.clock ≤ k
loaded_clock k s l = rw l.clock (omega arith)

pub certify_tells : CertifyTells
certify_tells ℓ image memory a k =
    let s = state_of_load (load_image image memory) in
    let l = image_loaded image memory a in
    let r = loaded_ready s l in
    (no_cause ℓ s r k, λ n. (before ℓ s r k n (loaded_clock k s l), from ℓ s r k n))

-- ---- one certificate for alike machines

module _ (ℓ : ℕ) (s t : State) (l : Loaded s) (m : Loaded t) (same : SameSetting s t) (low : LowEquivalent ℓ s t) where
  both_loaded : Both ℓ s t
  both_loaded =
      record {
        one = loaded_ready s l;
        two = loaded_ready t m;
        setting = same;
        alike = record { size = same.size; seen = low.locations };
      }

  -- A break of the second is one of the first.
  break_there : {c : Certificate} → breaks ℓ s ≡ false → breaks ℓ t ≡ false → Breaks ℓ t c → Breaks ℓ s c
  break_there b d x =
      twin_breaks x s (record { both = both_loaded; one = b; two = d })
      (first_twins ℓ s t same low.control (loaded_outside_lem s l) (loaded_outside_lem t m) b)

low_sym : {ℓ : ℕ} {s t : State} → LowEquivalent ℓ s t → LowEquivalent ℓ t s
low_sym low = record { locations = λ x. sym (low.locations x); control = sym low.control }

one_from_states : (ℓ : ℕ) (s t : State) → Loaded s → Loaded t → SameSetting s t → LowEquivalent ℓ s t → certify ℓ s ≡ certify ℓ t
one_from_states ℓ s t l m same low =
    ⊎_elim
    (λ (b : breaks ℓ s ≡ true).
    certify_broken ℓ s b ∙ first.1 b ∙ sym (certify_broken ℓ t (sym first.0 ∙ b)))
    (λ (b : breaks ℓ s ≡ false).
    let d = sym first.0 ∙ b in
    ⊎_elim
    (λ (e : certify ℓ s ≡ whole).
    ⊎_elim
    (λ (f : certify ℓ t ≡ whole). e ∙ sym f)
    (λ (x : Breaks ℓ t (certify ℓ t)).
    certify_found ℓ s (loaded_ready s l) b (break_there ℓ s t l m same low b d x))
    (certify_breaks ℓ t (loaded_ready t m) d))
    (λ (x : Breaks ℓ s (certify ℓ s)).
    sym (certify_found ℓ t (loaded_ready t m) d (break_there ℓ t s m l (setting_sym same) (low_sym low) d b x)))
    (certify_breaks ℓ s (loaded_ready s l) b))
    (either (breaks ℓ s))
  where
    first : (breaks ℓ s ≡ breaks ℓ t) × (breaks ℓ s ≡ true → break_at ℓ s ≡ break_at ℓ t)
    first =
        first_broken ℓ s t same low.control (loaded_outside_lem s l) (loaded_outside_lem t m) (l.clock ∙ sym m.clock)

pub one_certificate : OneCertificate
one_certificate ℓ image image' memory memory' a b =
    one_from_states ℓ (state_of_load (load_image image memory)) (state_of_load (load_image image' memory')) (image_loaded image memory a)
    (image_loaded image' memory' b)

-- ---- certified machines meet the provisos

-- Past k nothing is asked.
past_provisos : (ℓ k m : ℕ) (s : State) → Ready s → k < s.control.clock → StepsProvisos ℓ k s (path m s)
unfolding StepsProvisos
past_provisos ℓ k zero s r h = tt
past_provisos ℓ k (suc m) s r h =
    let x = (step_passes s r).rises in
    ((λ l. absurd (omega arith)), past_provisos ℓ k m (step s) (step_ready s r) (omega arith))

-- The steps of a certified state that finish at or before k meet them.
path_provisos : (ℓ k m : ℕ) (s : State) → Ready s → Certified ℓ k s → s.control.clock ≤ k → StepsProvisos ℓ k s (path m s)
unfolding StepsProvisos steps
path_provisos ℓ k zero s r h c = tt
path_provisos ℓ k (suc m) s r h c = (
  (λ l. step_provisos ℓ s r (h.release 0 l) (h.gate 0 c) (h.timing 1 l)),
  ⊎_elim
      (λ (e : leb (step s).control.clock k ≡ true).
      path_provisos ℓ k m (step s) (step_ready s r) (certified_step ℓ k s h) (leb-true _ k e))
      (λ (e : leb (step s).control.clock k ≡ false).
      past_provisos ℓ k m (step s) (step_ready s r) (leb-false _ k e))
      (either (leb (step s).control.clock k)),
)

trace_provisos : (ℓ k : ℕ) (s : State) → Loaded s → Certified ℓ k s → (qs : List Invocation) → Provisos ℓ k s (trace qs s)
unfolding steps
trace_provisos ℓ k s l h qs =
    let r = loaded_ready s l in
    let t = trace_row qs s r in
    record {
      loaded = h.timing 0 (loaded_clock k s l);
      steps = rw t.states (path_provisos ℓ k t.count s r h (loaded_clock k s l));
    }

-- ---- the theorem

-- What is certified of the first is certified of the second: they have one certificate.
certified_there : (ℓ k : ℕ) (s t : State) → Loaded s → Loaded t → SameSetting s t → LowEquivalent ℓ s t → Certified ℓ k s
    → Certified ℓ k t
certified_there ℓ k s t l m same low h =
    let e = one_from_states ℓ s t l m same low in
    ⊎_elim
    (λ (z : eqb (certify ℓ t).cause 0 ≡ true). no_cause ℓ t (loaded_ready t m) k (eqb-true _ 0 z))
    (λ (z : eqb (certify ℓ t).cause 0 ≡ false).
    let n = eqb-false (certify ℓ t).cause 0 z in
    let j : (certify ℓ s).cause ≡ 0 → ⊥ = λ x. n (ap (λ (c : Certificate). c.cause) (sym e) ∙ x) in
    ⊎_elim
    (λ (x : ltb k (certify ℓ t).tick ≡ true). before ℓ t (loaded_ready t m) k n (loaded_clock k t m) (ltb-true k _ x))
    (λ (x : ltb k (certify ℓ t).tick ≡ false).
    absurd (from ℓ s (loaded_ready s l) k j (rw e (ltb-false k (certify ℓ t).tick x)) h))
    (either (ltb k (certify ℓ t).tick)))
    (either (eqb (certify ℓ t).cause 0))

pub certified_noninterference : CertifiedNoninterference
certified_noninterference ℓ k image image' memory memory' a b same low h =
    let s = state_of_load (load_image image memory) in
    let t = state_of_load (load_image image' memory') in
    let l = image_loaded image memory a in
    let m = image_loaded image' memory' b in
    let g = certified_there ℓ k s t l m same low h in (
      g,
      λ qs rs.
          let p = trace_provisos ℓ k s l h qs in
          let q = trace_provisos ℓ k t m g rs in (p, q, from_loaded_states ℓ k s t l m same low qs rs p q),
    )
