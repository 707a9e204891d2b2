-- Witnesses for certificates: an image that is certified though two recipes make it run differently; for each cause two
-- images for which the claim would be false without it; and images that are certified thanks to each part of the first
-- two conditions, which make a certificate precise. proofs/CertificateFacts.antt has the checker compute them.
-- Assumes nothing.
use Rattle.std.specs.Prelude.{ℕ, ◌*◌, ◌^◌, ◌≡◌, Bool, true, ◌&&◌, List, [], ◌∷◌, ◌++◌, eqb, replicate}
use Rattle.labels.specs.Label.{lowest}
use Rattle.model.specs.declared.Pair.{Pair}
use Rattle.model.specs.Record.{Bank, State}
use Rattle.model.specs.Seen.{LowEquivalent, SameSetting}
use Rattle.noninterference.specs.Noninterference.{trace, at_tick, reached}
use Rattle.certificates.specs.Certificate.{Certificate, certify}
use Rattle.model.specs.Facts.{word_of, stop}
use Rattle.witnesses.specs.Witness.{Loads, fixed_of, usual, begin, twice, padded, holding, machine, one_run, provisos_hold, left, right, timed_by_secret}

-- ---- each cause is needed

-- Two images that are alike at or below ℓ. The first meets the provisos to the end, the second doesn't, and at k the two
-- are apart. What `certify` says of the first tells it.
pub record Deceptive (ℓ k : ℕ) (s t : State) (told : Certificate) : Type 0 where
  pub loads_one : Loads s
  pub loads_two : Loads t
  pub setting : SameSetting s t
  pub low : LowEquivalent ℓ s t
  pub met : provisos_hold ℓ k s (trace one_run s) ≡ true
  pub reached_one : reached k s (trace one_run s) ≡ true
  pub reached_two : reached k t (trace one_run t) ≡ true
  pub apart : LowEquivalent ℓ (at_tick k s (trace one_run s)) (at_tick k t (trace one_run t)) → ⊥
  pub certificate : certify ℓ s ≡ told

-- The registers with the secret 1 in register 5 under that label.
abbrev pub holding_under : ℕ → Bank
holding_under l =
    record {
      values = (holding 240 1).values;
      labels = replicate 5 lowest ++ (l ∷ 255 ∷ 255 ∷ replicate 7 lowest) ++ (255 ∷ []);
    }

-- 1. Op 16 on register 5, to 240. Under the label 15, which isn't sound, it fails; under 255 it passes.
abbrev pub releasing : ℕ → State
releasing l = machine usual (begin (twice 240)) (word_of 16 5 11 0 ∷ stop ∷ []) (holding_under l) 0

-- 2. A gate call to the gate whose number is the secret, from 255: of a machine that is loaded there.
abbrev pub loaded_outside : ℕ → State
loaded_outside secret = machine usual (begin (twice 255)) (word_of 20 0 5 0 ∷ stop ∷ stop ∷ stop ∷ []) (holding 240 secret) 0

-- The same of a machine that left for it by op 17.
abbrev pub left_for_outside : ℕ → State
left_for_outside secret =
    machine usual (begin (twice 240)) (word_of 17 0 2 (3 * 2 ^ 12) ∷ word_of 20 0 5 0 ∷ stop ∷ stop ∷ []) (holding 240 secret) 0

-- ---- what makes a certificate precise

-- A machine of that limit and number of gates, with that pair and program.
abbrev pub precise : ℕ → ℕ → Pair → List ℕ → State
precise limit count q program = machine (fixed_of 12 limit 11 count 2) (begin q) program (holding 240 0) 0

-- Op 16 on register 5, to the label in that register.
abbrev pub relabels : ℕ → List ℕ
relabels b = word_of 16 5 b 0 ∷ stop ∷ []

-- The label 50, trusted by 1 and 2 and holding secrets of 2, flows to 18; 240 and 18 flow to 18.
abbrev pub fifty : Pair
fifty = twice 50

-- It sets register 4 to a number, and relabels register 5 to it.
abbrev pub relabels_to : ℕ → List ℕ
relabels_to n = word_of 1 4 0 n ∷ word_of 16 5 4 0 ∷ stop ∷ []

-- Nothing breaks.
abbrev pub is_whole : ℕ → State → Bool
is_whole ℓ s = eqb (certify ℓ s).cause 0

-- The certificate's three numbers.
abbrev pub tells : ℕ → State → ℕ → ℕ → ℕ → Bool
tells ℓ s cause tick place =
    eqb (certify ℓ s).cause cause && eqb (certify ℓ s).tick tick && eqb (certify ℓ s).place place

-- Images that are certified, each beside one that isn't.
abbrev pub precise_table : List Bool
precise_table =
    -- a relabelling from outside to within that is tried in sight is told; tried outside it is not
    tells 240 (precise 60 3 (twice 240) (relabels 11)) 1 2 0
    ∷ is_whole 240 (precise 60 0 (twice 255) (relabels 11))
    -- where the register of the new label is hidden, it fails in every image
    ∷ is_whole 240 (precise 60 3 (twice 240) (relabels 6))
    -- a raise, and a relabelling of what is in sight
    ∷ is_whole 240 (precise 60 3 (twice 240) (word_of 15 8 2 0 ∷ stop ∷ []))
    ∷ is_whole 240 (precise 60 3 (twice 240) (word_of 16 8 11 0 ∷ stop ∷ []))
    -- to a label outside, and to a number that is no label
    ∷ is_whole 240 (precise 60 3 (twice 240) (relabels 2))
    ∷ is_whole 240 (precise 60 3 (twice 240) (relabels_to 256))
    -- barred by the limit, and not
    ∷ is_whole 240 (precise 1 3 (twice 240) (relabels 11))
    ∷ tells 240 (precise 2 3 (twice 240) (relabels 11)) 1 2 0
    -- p doesn't flow to the new label, or that not to the reflection of p; a label for which both hold is told
    ∷ is_whole 18 (precise 60 0 fifty (relabels 11))
    ∷ is_whole 18 (machine (fixed_of 12 60 11 0 2) (begin fifty) (relabels 14) (record { values = padded 14 0 (holding 240 0).values ++ (18 ∷ 0 ∷ []); labels = (holding 240 0).labels }) 0)
    ∷ tells 18 (machine (fixed_of 12 60 11 0 2) (begin fifty) (relabels 14) (record { values = padded 14 0 (holding 240 0).values ++ (50 ∷ 0 ∷ []); labels = (holding 240 0).labels }) 0) 1 2 0
    -- outside with no gate, with gates that lead elsewhere, and with one that leads within
    ∷ is_whole 240 (precise 60 0 (twice 255) (stop ∷ []))
    ∷ tells 240 (precise 60 1 (twice 255) (stop ∷ [])) 2 0 0
    -- p within and t outside: the loaded state, and one that op 17 leaves
    ∷ tells 240 (timed_by_secret 0) 3 0 0
    ∷ tells 240 (precise 60 3 (twice 240) (word_of 17 0 11 (2 * 2 ^ 12) ∷ stop ∷ [])) 3 2 1
    -- the main witness: two secrets, with which it runs differently
    ∷ is_whole 240 (left 240)
    ∷ is_whole 240 (right 240)
    ∷ is_whole 18 (left 18)
    ∷ is_whole 18 (right 18)
    ∷ []
