-- A certificate from a single run: at a label ℓ, up to which tick nothing that is hidden can show, whatever it is. The
-- run is that of one accepted image; what it says holds for every image that is alike at or below ℓ. It looks at what the
-- run tries where it is within ℓ, and not only at what it does: another run may do what this one only tries.
-- Assumes nothing.
use Rattle.std.specs.Prelude.{ℕ, zero, suc, ◌+◌, ◌-◌, ◌<◌, ◌≤◌, ◌≡◌, Bool, true, false, not, ◌&&◌, ◌||◌, cond, List, [], ◌∷◌, ◌++◌, length, drop, get_or}
use Rattle.labels.specs.Label.{flows, reflection}
use Rattle.causes.specs.Causes.{Outcome, number_of, is_done}
use Rattle.model.specs.Numbers.{letter_v, letter_x}
use Rattle.model.specs.declared.Fixed.{Fixed}
use Rattle.model.specs.Record.{Bank, State, in_upcall}
use Rattle.model.specs.Word.{Op, immediate, arithmetic, load as load_word, store, branch, jump, read_clock, set_label, set_pair, upcall, end_upcall, gate_call, gate_return, halt, raise, relabel}
use Rattle.model.specs.WellFormed.{no_gate}
use Rattle.model.specs.Ops.{is_label, p, La, Lb, Rb}
use Rattle.model.specs.Step.{Fetched, failed, fetched, fetch, is_carried, decide, step, steps}
use Rattle.model.specs.Load.{Loading, load}
use Rattle.model.specs.Listing.{line}
use Rattle.model.specs.Program.{Image, load_image, Accepted, state_of_load, memory_after, program_memory, Replied}
use Rattle.model.specs.Seen.{within, LowEquivalent, SameSetting}
use Rattle.noninterference.specs.Noninterference.{Invocation, trace, at_tick, reached, timed_from_outside, Provisos}

-- ---- what breaks a certificate

-- 1. A step attempts a release. The op is a relabelling, which alone can lower a location: op 16.
abbrev pub is_relabelling : Op → Bool
is_relabelling immediate = false
is_relabelling (arithmetic f) = false
is_relabelling load_word = false
is_relabelling store = false
is_relabelling (branch f) = false
is_relabelling jump = false
is_relabelling read_clock = false
is_relabelling (set_label raise) = false
is_relabelling (set_label relabel) = true
is_relabelling set_pair = false
is_relabelling upcall = false
is_relabelling end_upcall = false
is_relabelling gate_call = false
is_relabelling gate_return = false
is_relabelling halt = false

-- It is tried with p within ℓ, on a location whose label is outside; Rb is a label within; Lb flows to p; and the part of
-- the rule that can be seen holds: p flows to Rb, and Rb to the reflection of p. Whether the location's own label allows it
-- is not asked, since that is hidden.
unfoldable pub tries_release : ℕ → State → ℕ → Bool
tries_release ℓ s w =
    within ℓ (p s w) && not (within ℓ (La s w)) && is_label (Rb s w) && within ℓ (Rb s w) && flows (Lb s w) (p s w)
    && flows (p s w) (Rb s w) && flows (Rb s w) (reflection (p s w))

-- The fetched word is such an op.
abbrev pub releases : ℕ → State → Fetched → Bool
releases ℓ s (failed why) = false
releases ℓ s (fetched w op) = is_relabelling op && tries_release ℓ s w

-- A step from this state attempts a release to within ℓ.
unfoldable pub attempts : ℕ → State → Bool
attempts ℓ s = is_carried (decide s) && releases ℓ s (fetch s)

-- 2. One of the first n gates leads within ℓ.
unfoldable pub leads_within : ℕ → Fixed → ℕ → Bool
leads_within ℓ f zero = false
leads_within ℓ f (suc n) = within ℓ (get_or f.gates n no_gate).pair.pc || leads_within ℓ f n

-- The state is outside, in no upcall, while a gate leads within. (In an upcall op 20 fails.)
unfoldable pub at_large : ℕ → State → Bool
at_large ℓ s = not (within ℓ s.control.pair.pc) && not (in_upcall s.control) && leads_within ℓ s.fixed s.fixed.count

-- Up to k, from the loaded state on: no step that finishes at or before k attempts a release (1), and no state up to k is
-- outside without an upcall while a gate leads within (2) or has its pc label within and its timing label outside (3).
pub record Certified (ℓ k : ℕ) (s : State) : Type 0 where
  pub release : (n : ℕ) → (steps (suc n) s).control.clock ≤ k → attempts ℓ (steps n s) ≡ false
  pub gate : (n : ℕ) → (steps n s).control.clock ≤ k → at_large ℓ (steps n s) ≡ false
  pub timing : (n : ℕ) → (steps n s).control.clock ≤ k → timed_from_outside ℓ (steps n s) ≡ false

-- ---- the first break

-- What a certificate says: the cause of the first break, or 0; the tick, which is the clock that its step leaves; and the
-- place.
pub record Certificate : Type 0 where
  pub cause : ℕ
  pub tick : ℕ
  pub place : ℕ

-- No break.
abbrev pub whole : Certificate
whole = record { cause = 0; tick = 0; place = 0 }

-- A step from this state attempts a release: the place is its pc.
abbrev pub release_from : State → Certificate
release_from s = record { cause = 1; tick = (step s).control.clock; place = s.control.pc }

-- A state breaks the certificate.
unfoldable pub breaks : ℕ → State → Bool
breaks ℓ s = at_large ℓ s || timed_from_outside ℓ s

-- How it does: the pc is hidden outside ℓ, so that the place is 0 there.
unfoldable pub break_at : ℕ → State → Certificate
break_at ℓ s =
    cond (at_large ℓ s) (record { cause = 2; tick = s.control.clock; place = 0 })
    (record { cause = 3; tick = s.control.clock; place = s.control.pc })

-- The first break in n steps from a state that is none itself.
unfoldable pub watch : ℕ → ℕ → State → Certificate
watch ℓ zero s = whole
watch ℓ (suc n) s =
    cond (attempts ℓ s) (release_from s) (cond (breaks ℓ (step s)) (break_at ℓ (step s)) (watch ℓ n (step s)))

-- The first break of the run from a state on. As for the run, limit - clock + 1 steps are enough.
unfoldable pub certify : ℕ → State → Certificate
certify ℓ s = cond (breaks ℓ s) (break_at ℓ s) (watch ℓ (s.fixed.limit - s.control.clock + 1) s)

-- ---- an image certified

-- What the call answers: the outcome of load with its line; the certificate, which for a refused image is whole; and the
-- lent memory at exit.
pub record Certifying : Type 0 where
  pub outcome : Outcome
  pub line : ℕ
  pub certificate : Certificate
  pub memory : Bank

-- After a load. An accepted image is run to the end, also behind a break.
abbrev pub certifying_load : ℕ → Loading → Certifying
certifying_load ℓ a =
    record {
      outcome = a.outcome;
      line = a.line;
      certificate = cond (is_done a.outcome) (certify ℓ (state_of_load a)) whole;
      memory = memory_after a;
    }

-- An image loaded and certified at ℓ.
unfoldable pub certifying : ℕ → List ℕ → Bank → Certifying
certifying ℓ text m = certifying_load ℓ (load text m)

-- What the program `certifying` prints of it: `V,cause,tick,place`; for a refusal `X,number,line`.
unfoldable pub verdict_line : Certifying → List ℕ
verdict_line a =
    cond (is_done a.outcome) (line letter_v (a.certificate.cause ∷ a.certificate.tick ∷ a.certificate.place ∷ []))
    (line letter_x (number_of a.outcome ∷ a.line ∷ []))

-- An image certified in the program's memory: how many bytes, and the output that holds them at its start.
unfoldable pub certify_alone : ℕ → List ℕ → List ℕ → Replied
certify_alone ℓ text out =
    let o = verdict_line (certifying ℓ text program_memory) in
    record { bytes = length o; output = o ++ drop (length o) out }

-- ---- the theorems

-- For any two accepted images of equal setting that are alike at or below ℓ: if the first is certified up to k, so is the
-- second; and then, for any two sequences of calls, both meet the provisos up to k, and where both have reached k they are
-- alike at or below ℓ at k.
abbrev pub CertifiedNoninterference : Type 0
CertifiedNoninterference =
    (ℓ k : ℕ) (image image' : Image) (memory memory' : Bank) → Accepted (load_image image memory)
    → Accepted (load_image image' memory')
    → (let s = state_of_load (load_image image memory) in
    let t = state_of_load (load_image image' memory') in
    SameSetting s t → LowEquivalent ℓ s t → Certified ℓ k s
    → Certified ℓ k t
    × ((qs rs : List Invocation)
    → Provisos ℓ k s (trace qs s)
    × Provisos ℓ k t (trace rs t)
    × (reached k s (trace qs s) ≡ true → reached k t (trace rs t) ≡ true
    → LowEquivalent ℓ (at_tick k s (trace qs s)) (at_tick k t (trace rs t)))))

-- What `certify` tells of an accepted image: with cause 0 it is certified at every k; with another cause at every k below
-- the tick, and at none from it on.
abbrev pub CertifyTells : Type 0
CertifyTells =
    (ℓ : ℕ) (image : Image) (memory : Bank) → Accepted (load_image image memory)
    → (let s = state_of_load (load_image image memory) in
    (k : ℕ)
    → ((certify ℓ s).cause ≡ 0 → Certified ℓ k s)
    × (((certify ℓ s).cause ≡ 0 → ⊥)
    → (k < (certify ℓ s).tick → Certified ℓ k s) × ((certify ℓ s).tick ≤ k → Certified ℓ k s → ⊥)))

-- Two accepted images of equal setting that are alike at or below ℓ get one certificate.
abbrev pub OneCertificate : Type 0
OneCertificate =
    (ℓ : ℕ) (image image' : Image) (memory memory' : Bank) → Accepted (load_image image memory)
    → Accepted (load_image image' memory')
    → (let s = state_of_load (load_image image memory) in
    let t = state_of_load (load_image image' memory') in SameSetting s t → LowEquivalent ℓ s t → certify ℓ s ≡ certify ℓ t)
