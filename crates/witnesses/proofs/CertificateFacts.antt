-- The witnesses for certificates, by computation.
-- Assumes nothing.
use Prim.Native.Nat.{ℕ}
use mathlib.Core.Path.{◌≡◌, refl}
use mathlib.Core.Bool.{Bool, true, not}
use mathlib.Core.List.{[], ◌∷◌}
use Rattle.model.specs.Record.{State}
use Rattle.noninterference.specs.Noninterference.{trace, at_tick, reached}
use Rattle.certificates.specs.Certificate.{tries_release, attempts, leads_within, at_large, Certificate, breaks, break_at, watch, certify}
use Rattle.model.specs.Facts.{every}
use Rattle.model.proofs.Truth.{and_iff, not_iff}
use Rattle.witnesses.specs.Witness.{Loads, low_equivalent, one_run, provisos_hold}
use Rattle.witnesses.specs.Certificates.{Deceptive, releasing, loaded_outside, left_for_outside, precise_table}
use Rattle.witnesses.proofs.WitnessFacts.{setting, low, apart, computing}

-- All that a certificate computes with.
unfoldable pub certifying : Bool
unfolding computing tries_release attempts leads_within at_large breaks break_at watch certify
certifying = true

-- Two images that load, start alike and are apart at k, the first of which meets the provisos.
deceptive : (ℓ k : ℕ) (s t : State) (told : Certificate) → Loads s → Loads t → s.fixed ≡ t.fixed
    → every (low_equivalent ℓ s t ∷ provisos_hold ℓ k s (trace one_run s) ∷ reached k s (trace one_run s) ∷ reached k t (trace one_run t) ∷ not (low_equivalent ℓ (at_tick k s (trace one_run s)) (at_tick k t (trace one_run t))) ∷ []) ≡ true
    → certify ℓ s ≡ told → Deceptive ℓ k s t told
deceptive ℓ k s t told l m f e c =
    let a = (and_iff (low_equivalent ℓ s t) _).0 e in
    let b = (and_iff (provisos_hold ℓ k s (trace one_run s)) _).0 a.1 in
    let d = (and_iff (reached k s (trace one_run s)) _).0 b.1 in
    let g = (and_iff (reached k t (trace one_run t)) _).0 d.1 in
    let h = (and_iff (not (low_equivalent ℓ (at_tick k s (trace one_run s)) (at_tick k t (trace one_run t)))) true).0 g.1 in
    record {
      loads_one = l;
      loads_two = m;
      setting = setting s t f;
      low = low ℓ s t a.0;
      met = b.0;
      reached_one = d.0;
      reached_two = g.0;
      apart = apart ℓ _ _ ((not_iff _).0 h.0);
      certificate = c;
    }

-- The attempt counts and not the success: in the first image the relabelling fails, in the second it passes.
pub release_needed : Deceptive 240 2 (releasing 15) (releasing 255) (record { cause = 1; tick = 2; place = 0 })
unfolding certifying
release_needed = deceptive 240 2 (releasing 15) (releasing 255) _ refl refl refl refl refl

-- Gates that lead within count for a machine outside: loaded there, or gone there by op 17.
pub gate_needed : Deceptive 240 4 (loaded_outside 9) (loaded_outside 0) (record { cause = 2; tick = 0; place = 0 })
unfolding certifying
gate_needed = deceptive 240 4 (loaded_outside 9) (loaded_outside 0) _ refl refl refl refl refl

pub left_needed : Deceptive 240 6 (left_for_outside 9) (left_for_outside 0) (record { cause = 2; tick = 2; place = 0 })
unfolding certifying
left_needed = deceptive 240 6 (left_for_outside 9) (left_for_outside 0) _ refl refl refl refl refl

-- What is told, and what isn't. That the third cause is needed stands with the third proviso: timing_needed.
pub precise_hold : every precise_table ≡ true
unfolding certifying
precise_hold = refl
