-- From what load, the run to a tick, print and the line writer promise to what `view` and `view_alone` promise.
-- Assumes nothing.
use Prim.Native.Nat.{ℕ, ◌<◌, ◌≤◌}
use mathlib.Core.Path.{◌≡◌, refl, sym, ap, ◌∙◌}
use mathlib.Core.Bool.{false}
use mathlib.Core.List.{List, [], ◌∷◌, ◌++◌}
use native.Mathlib.Omega.{arith}
use lib.Dec.{leb}
use lib.ListN.{length, take, drop}
use borrow.Author.Tests.{le-leb, lt-leb}
use Rattle.causes.specs.declared.Cause.TheVariants.{TickAboveLimit}
use Rattle.causes.specs.Causes.{Outcome, Done, Refused, number_of, is_done}
use Rattle.model.specs.Numbers.{letter_x}
use Rattle.model.specs.Record.{Bank, State}
use Rattle.model.specs.Step.{run_to}
use Rattle.model.specs.Answer.{Answer, run_to_answer}
use Rattle.model.specs.Load.{Loading, load}
use Rattle.model.specs.Listing.{line, listing_for, Printing, listed, print_for}
use Rattle.model.specs.Program.{state_of_load, program_memory, Replied}
use Rattle.model.specs.View.{Look, refused, arrived, look, View, view_of, view_load, view, view_reply, view_alone}
use Rattle.model.proofs.Truth.{choice, clash}
use Rattle.model.proofs.RunTo.{run_to_ready}
use Rattle.model.proofs.Program.{load_ready, run_to_done, print_done}
use Rattle.model.proofs.View.{look_arrives, look_above}
use Rattle.texts.proofs.Buffer.{view_reply_bound, front_counts}
use Rattle.writer.specs.Writing.{Writing, answer, over, writing}
use Rattle.writer.proofs.Answer.{line_whole}

-- ---- a text viewed

module _ (ℓ k : ℕ) (text : List ℕ) (m : Bank) (out : List ℕ) (a : Loading) (e : a ≡ load text m) where
  -- A refused one.
  pub refused_view : is_done a.outcome ≡ false
      → record { outcome = a.outcome; value = a.line; bytes = 0; output = out; memory = a.memory } ≡ view ℓ k text m out
  unfolding view view_load look
  refused_view h = rw (← e, h)

  -- 10 where the tick is above the limit.
  pub above_view : a.outcome ≡ Done → a.machine.fixed.limit < k
      → record { outcome = Refused TickAboveLimit; value = a.machine.fixed.limit; bytes = 0; output = out; memory = a.memory }
      ≡ view ℓ k text m out
  unfolding view view_load
  above_view y h = rw (← e, look_above k a y (lt-leb k a.machine.fixed.limit h))

  -- Else the listing at the tick, or 8.
  pub listed_view : (b : Answer) (p : Printing) → a.outcome ≡ Done → k ≤ a.machine.fixed.limit
      → b ≡ run_to_answer k a.machine a.memory → p ≡ print_for ℓ b.machine b.memory out
      → record { outcome = p.outcome; value = 0; bytes = p.bytes; output = p.output; memory = b.memory } ≡ view ℓ k text m out
  unfolding view view_load
  listed_view b p y h f g =
      let z : (load text m).outcome ≡ Done = ap (λ (x : Loading). x.outcome) (sym e) ∙ y in
      let s = state_of_load (load text m) in
      let r = load_ready text m z in
      let i = (rw e at f) ∙ run_to_done k s r in
      let j = (rw i at g) ∙ print_done ℓ (run_to k s) out (run_to_ready k s r) in
      rw (j, i, look_arrives k (load text m) z (le-leb k s.fixed.limit (rw e at h)))

-- ---- what the program prints

-- What holds of a refusal that isn't done, and of a state, holds of what an image comes to.
look_either : (P : Look → Type 0) (k : ℕ) (a : Loading)
    → ((outcome : Outcome) (value : ℕ) (m : Bank) → is_done outcome ≡ false → P (refused outcome value m))
    → ((s : State) → P (arrived s)) → P (look k a)
unfolding look
look_either P k a f g =
    let s = state_of_load a in
    choice P (is_done a.outcome) _ _
    (λ y.
    choice P (leb k s.fixed.limit) _ _ (λ h. g (run_to k s))
    (λ h. f (Refused TickAboveLimit) s.fixed.limit s.memory refl))
    (λ y. f a.outcome a.line a.memory y)

-- The reply fits the output.
abbrev Fits : ℕ → List ℕ → Look → Type 0
Fits ℓ out x = length (view_reply ℓ x) ≤ length out

module _ (ℓ : ℕ) (out : List ℕ) where
  -- A view that is done has the reply at the start of its output.
  abbrev WhenDone : Look → Type 0
  WhenDone x =
      Fits ℓ out x → (view_of ℓ x out).outcome ≡ Done
      → ◌≡◌ {A = Replied} (record { bytes = (view_of ℓ x out).bytes; output = (view_of ℓ x out).output })
      (record { bytes = length (view_reply ℓ x); output = view_reply ℓ x ++ drop (length (view_reply ℓ x)) out })

  -- One that is refused leaves the output, and its line is the reply.
  abbrev WhenRefused : Look → Type 0
  WhenRefused x =
      Fits ℓ out x → is_done (view_of ℓ x out).outcome ≡ false
      → ((view_of ℓ x out).output ≡ out)
      × (view_reply ℓ x ≡ line letter_x (number_of (view_of ℓ x out).outcome ∷ (view_of ℓ x out).value ∷ []))

  arrived_done : (s : State) → WhenDone (arrived s)
  unfolding listed
  arrived_done s fits y = rw (le-leb (length (listing_for ℓ s)) (length out) fits)

  arrived_refused : (s : State) → WhenRefused (arrived s)
  unfolding listed
  arrived_refused s fits h = clash refl (rw (le-leb (length (listing_for ℓ s)) (length out) fits) at h)

  when_done : (k : ℕ) (a : Loading) → WhenDone (look k a)
  when_done k a =
      look_either WhenDone k a (λ o v m h fits y. clash (ap is_done y) h) arrived_done

  when_refused : (k : ℕ) (a : Loading) → WhenRefused (look k a)
  when_refused k a = look_either WhenRefused k a (λ o v m h fits f. (refl, refl)) arrived_refused

module _ (ℓ k : ℕ) (text out : List ℕ) (room : 65536 ≤ length out) (v : View) (e : v ≡ view ℓ k text program_memory out) where
  -- There is room for every reply.
  fits : Fits ℓ out (look k (load text program_memory))
  fits = omega (arith, view_reply_bound ℓ k text program_memory)

  is : v ≡ view_of ℓ (look k (load text program_memory)) out
  unfolding view view_load
  is = e

  pub alone_done : v.outcome ≡ Done → record { bytes = v.bytes; output = v.output } ≡ view_alone ℓ k text out
  unfolding view_alone
  alone_done y = rw is (when_done ℓ out k (load text program_memory) fits (rw is at y))

  pub alone_refused : is_done v.outcome ≡ false → {number value n : ℕ} {o : List ℕ} → number ≡ number_of v.outcome
      → value ≡ v.value → answer n o ≡ writing letter_x (number ∷ value ∷ []) v.output
      → record { bytes = n; output = o } ≡ view_alone ℓ k text out
  unfolding view_alone over
  alone_refused h {number} {value} {n} {o} q u w =
      let r = when_refused ℓ out k (load text program_memory) fits (rw is at h) in
      let left : v.output ≡ out = ap (λ (x : View). x.output) is ∙ r.0 in
      let reply : view_reply ℓ (look k (load text program_memory)) ≡ line letter_x (number ∷ value ∷ []) = rw (q, u, is) r.1 in
      ap (λ (x : Writing). record { bytes = x.count; output = x.output })
      (line_whole letter_x (number ∷ value ∷ []) out (omega arith) (rw left at w) (omega arith))
      ∙ rw reply

-- The bytes that were written count bytes of the output.
pub alone_counts : (ℓ k : ℕ) (text out : List ℕ) (r : Replied) → r ≡ view_alone ℓ k text out
    → (r.bytes ≤ length r.output) × (r.bytes ≡ length (take r.bytes r.output))
unfolding view_alone
alone_counts ℓ k text out r e = rw e (front_counts (view_reply ℓ (look k (load text program_memory))) out)
