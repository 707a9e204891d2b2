-- The promise to a viewer: specs/SteadyView.antt states it. A run to a tick leaves the state at that tick of the trace of one
-- run, so the theorem is about it; and equal sight is equal listing.
-- Assumes nothing.
use Prim.Native.Nat.{ℕ, zero, suc, ◌+◌, ◌-◌}
use mathlib.Core.Path.{◌≡◌, refl, sym, ap, ◌∙◌, subst₂}
use mathlib.Core.Logic.{⊎_elim}
use mathlib.Core.Bool.{Bool, true, false, or-true}
use mathlib.Core.List.{List, [], ◌∷◌, append-nil}
use lib.Dec.{leb, ltb}
use lib.ListN.{length}
use borrow.Author.Tests.{leb-false}
use Rattle.causes.specs.declared.Cause.TheVariants.{ShortOutput}
use Rattle.causes.specs.Tests.{unless}
use Rattle.model.specs.declared.Request.TheVariants.{Run}
use Rattle.model.specs.Record.{Machine, State, machine_of}
use Rattle.model.specs.Step.{running, step, run, finishes_by, steps_by, run_to}
use Rattle.model.specs.Listing.{listing_for, not_printed, printed, listed}
use Rattle.model.specs.Program.{load_image, state_of_load}
use Rattle.model.specs.Seen.{LowEquivalent}
use Rattle.model.specs.View.{arrived, view_of, view_load}
use Rattle.noninterference.specs.Noninterference.{after, after_all, regain, run_states, work_states, call_states, trace, at_tick, reached}
use Rattle.noninterference.specs.SteadyView.{SameView, run_call, SteadyView}
use Rattle.model.proofs.Truth.{either}
use Rattle.model.proofs.Ready.{Ready}
use Rattle.model.proofs.Step.{step_clock, step_ready}
use Rattle.model.proofs.Run.{run_ends}
use Rattle.model.proofs.RunTo.{late_stays, ended_stays, timely_goes}
use Rattle.model.proofs.Load.{loaded_ready}
use Rattle.model.proofs.HexLoad.{image_loaded}
use Rattle.model.proofs.View.{same_listing, look_arrives, look_above}
use Rattle.noninterference.proofs.Trace.{run_row, past, answer_whole, trace_last}
use Rattle.noninterference.proofs.Noninterference.{from_loaded_states}

-- ---- the state at a tick

-- A step finishes by k where the clock that it leaves is at most k.
by_clock : (k : ℕ) (s : State) → leb (step s).control.clock k ≡ finishes_by k s
unfolding finishes_by
by_clock k s = ap (λ (n : ℕ). leb n k) (step_clock s)

-- Of the states of a run, the one at tick k is that after the steps that finish by k.
at_tick_by : (k n : ℕ) (s : State) → Ready s → at_tick k s (run_states running n s) ≡ steps_by k n s
unfolding at_tick run_states steps_by
at_tick_by k zero s r = refl
at_tick_by k (suc n) s r =
    ⊎_elim
    (λ (u : running s ≡ true).
    ⊎_elim
    (λ (e : finishes_by k s ≡ true).
    rw (u, by_clock k s, e) (at_tick_by k n (step s) (step_ready s r) ∙ sym (timely_goes k n s e)))
    (λ (e : finishes_by k s ≡ false).
    let h = run_row n (step s) in
    let g = leb-false (step s).control.clock k (by_clock k s ∙ e) in
    rw (u, by_clock k s, e, h.states) (past k h.count s (step s) (step_ready s r) g ∙ sym (late_stays k (suc n) s e)))
    (either (finishes_by k s)))
    (λ (u : running s ≡ false). rw u (sym (ended_stays k (suc n) s u)))
    (either (running s))

-- The trace of one run.
run_trace : (s : State) → Ready s → trace (run_call ∷ []) s ≡ run_states running (s.fixed.limit - s.control.clock + 1) s
unfolding trace call_states work_states
run_trace s r = rw (answer_whole Run s r) (append-nil _)

-- A run to tick k leaves the state at tick k of the trace of one run.
pub run_to_at_tick : (k : ℕ) (s : State) → Ready s → at_tick k s (trace (run_call ∷ []) s) ≡ run_to k s
unfolding run_to
run_to_at_tick k s r = ap (at_tick k s) (run_trace s r) ∙ at_tick_by k _ s r

-- One run reaches every tick.
run_reaches : (k : ℕ) (s : State) → Ready s → reached k s (trace (run_call ∷ []) s) ≡ true
unfolding reached after_all after regain
run_reaches k s r =
    rw (trace_last (run_call ∷ []) s r ∙ run_after, run_ends s r) (or-true (ltb k (run s).control.clock))
  where
    run_after : after_all (run_call ∷ []) s ≡ run s
    run_after = rw (answer_whole Run s r)

-- ---- the theorem

-- A listing is written or refused alike, whatever the record.
same_printing : (r q : Machine) (text out : List ℕ)
    → ((listed r text out).outcome ≡ (listed q text out).outcome)
    × ((listed r text out).bytes ≡ (listed q text out).bytes)
    × ((listed r text out).output ≡ (listed q text out).output)
unfolding listed
same_printing r q text out = go (leb (length text) (length out))
  where
    go : (b : Bool) → (let x = unless b (not_printed ShortOutput r out) (printed r text out) in
        let y = unless b (not_printed ShortOutput q out) (printed q text out) in
        (x.outcome ≡ y.outcome) × (x.bytes ≡ y.bytes) × (x.output ≡ y.output))
    go true = (refl, refl, refl)
    go false = (refl, refl, refl)

-- Two states that are alike at or below ℓ have the same view from there.
alike_viewed : (ℓ : ℕ) (s t : State) → LowEquivalent ℓ s t → (out : List ℕ)
    → SameView (view_of ℓ (arrived s) out) (view_of ℓ (arrived t) out)
alike_viewed ℓ s t e out =
    let h = same_printing (machine_of s) (machine_of t) (listing_for ℓ t) out in
    rw (same_listing ℓ s t e) (record { outcome = h.0; value = refl; bytes = h.1; output = h.2 })

-- From two accepted loads: both ticks are above the limit, or the two are alike at the tick.
pub steady_view : SteadyView
unfolding view_load
steady_view ℓ k image image' memory memory' a b same low p q out =
    let x = load_image image memory in
    let y = load_image image' memory' in
    let s = state_of_load x in
    let t = state_of_load y in
    let l = image_loaded image memory a in
    let m = image_loaded image' memory' b in
    let r = loaded_ready s l in
    let u = loaded_ready t m in
    ⊎_elim
    (λ (e : leb k s.fixed.limit ≡ true).
    rw (look_arrives k x a e, look_arrives k y b (rw same.limit at e))
    (alike_viewed ℓ (run_to k s) (run_to k t)
    (subst₂ (LowEquivalent ℓ) (run_to_at_tick k s r) (run_to_at_tick k t u)
    (from_loaded_states ℓ k s t l m same low (run_call ∷ []) (run_call ∷ []) p q (run_reaches k s r) (run_reaches k t u)))
    out))
    (λ (e : leb k s.fixed.limit ≡ false).
    rw (look_above k x a e, look_above k y b (rw same.limit at e))
    (record { outcome = refl; value = same.limit; bytes = refl; output = refl }))
    (either (leb k s.fixed.limit))
