-- From what load, the watch and the line writer promise to the answers.
-- Assumes nothing.
use Rattle.std.specs.Prelude.{Option}
use Prim.Native.Nat.{ℕ, ◌≤◌}
use mathlib.Core.Path.{◌≡◌, sym, ap, ◌∙◌, subst}
use mathlib.Core.Bool.{false}
use mathlib.Core.List.{List, [], ◌∷◌}
use native.Mathlib.Omega.{arith}
use lib.ListN.{length, take}
use Rattle.causes.specs.Causes.{Done, number_of, is_done}
use Rattle.model.specs.Numbers.{letter_v, letter_x}
use Rattle.model.specs.Record.{Bank, State, machine_of, lent}
use Rattle.model.specs.Load.{Loading, load}
use Rattle.model.specs.Listing.{line}
use Rattle.model.specs.Program.{state_of_load, memory_after, program_memory, Replied}
use Rattle.certificates.specs.Certificate.{whole, Certifying, certifying, verdict_line, certify_alone}
use Rattle.model.proofs.Ready.{fits, whole_lent, Ready}
use Rattle.model.proofs.Program.{load_ready}
use Rattle.writer.specs.Writing.{Writing, answer, over, writing}
use Rattle.writer.proofs.Answer.{line_whole}
use Rattle.texts.proofs.Buffer.{front_counts}
use Rattle.certify.specs.declared.Break.{Break}
use Rattle.certify.specs.Certified.{certificate_of}
use Rattle.certify.specs.Inner.Watch.{Loaded, Watched}

-- ---- a text certified

-- A ready state has what is asked of a loaded one.
ready_loaded : {s : State} → Ready s → Loaded s
ready_loaded {s} r =
    record {
      typed = r.typed;
      formed = fits (machine_of s) r.fit;
      whole = whole_lent s.fixed.size s.memory r.words r.labels;
    }

module _ (text : List ℕ) (m : Bank) (a : Loading) (e : a ≡ load text m) where
  -- What is loaded is such a state.
  pub loaded_fit : a.outcome ≡ Done → Loaded (state_of_load a)
  loaded_fit y =
      subst (λ (b : Loading). Loaded (state_of_load b)) (sym e)
      (ready_loaded (load_ready text m (ap (λ (b : Loading). b.outcome) (sym e) ∙ y)))

  -- A refused one.
  pub certified_refused : (ℓ : ℕ) → is_done a.outcome ≡ false
      → record { outcome = a.outcome; line = a.line; certificate = whole; memory = a.memory } ≡ certifying ℓ text m
  unfolding certifying memory_after
  certified_refused ℓ h = rw (← e, h)

  -- An accepted one.
  pub certified_done : {ℓ : ℕ} {r : Option Break} {words labels : List ℕ} → a.outcome ≡ Done
      → Watched ℓ (state_of_load a) r words labels
      → record { outcome = a.outcome; line = a.line; certificate = certificate_of r; memory = lent words labels }
      ≡ certifying ℓ text m
  unfolding certifying memory_after
  certified_done y w = rw (w.certificate, w.memory, ← e, y)

-- ---- its line

-- That of a refusal, and of a certificate.
pub refusal_line : (a : Certifying) → is_done a.outcome ≡ false → {number place : ℕ} → number ≡ number_of a.outcome
    → place ≡ a.line → verdict_line a ≡ line letter_x (number ∷ place ∷ [])
unfolding verdict_line
refusal_line a h n l = rw (h, n, l)

pub certificate_line : (a : Certifying) → a.outcome ≡ Done
    → verdict_line a ≡ line letter_v (a.certificate.cause ∷ a.certificate.tick ∷ a.certificate.place ∷ [])
unfolding verdict_line
certificate_line a y = rw y

-- What the line writer wrote.
abbrev wrote : Writing → Replied
wrote w = record { bytes = w.count; output = w.output }

module _ (ℓ : ℕ) (text out : List ℕ) (room : 128 ≤ length out) (a : Certifying) (e : a ≡ certifying ℓ text program_memory) where
  -- It was written whole, since there is room for each.
  pub alone_wrote : (letter : ℕ) (ns : List ℕ) {n : ℕ} {o : List ℕ} → verdict_line a ≡ line letter ns → length ns ≤ 3
      → answer n o ≡ writing letter ns out → record { bytes = n; output = o } ≡ certify_alone ℓ text out
  unfolding certify_alone over
  alone_wrote letter ns v few w = ap wrote (line_whole letter ns out (omega arith) w room) ∙ rw (← e, v)

-- The bytes that were written count bytes of the output.
pub alone_counts : (ℓ : ℕ) (text out : List ℕ) (r : Replied) → r ≡ certify_alone ℓ text out
    → (r.bytes ≤ length r.output) × (r.bytes ≡ length (take r.bytes r.output))
unfolding certify_alone
alone_counts ℓ text out r e = rw e (front_counts (verdict_line (certifying ℓ text program_memory)) out)
