-- The laws of the run to a tick: it is so many steps; at the limit or beyond it bars nothing; it leaves what a step
-- leaves; and to a tick that is past it does nothing.
-- Assumes nothing.
use Prim.Native.Nat.{ℕ, zero, suc, ◌+◌, ◌-◌, ◌≤◌, ◌<◌}
use mathlib.Core.Path.{◌≡◌, refl, sym, ap, ◌∙◌, subst}
use mathlib.Core.Logic.{⊎_elim}
use mathlib.Core.Bool.{true, false, ◌&&◌}
use native.Mathlib.Nat.{le_refl, le_trans}
use native.Mathlib.Omega.{arith}
use lib.Dec.{ltb, eqb}
use borrow.Author.Tests.{ltb-false, le-leb, lt-leb}
use Rattle.model.specs.Record.{State, machine_of, in_upcall}
use Rattle.model.specs.Word.{Op, immediate, arithmetic, load, store, branch, jump, read_clock, set_label, set_pair, upcall, end_upcall, gate_call, gate_return, halt}
use Rattle.model.specs.Ops.{table}
use Rattle.model.specs.Step.{Decision, rest, spend, stall, close, carry, Fetched, failed, fetched, end_tick, passed, attempt, in_time, fault, plan, fetch, finish, beyond_limit, in_limit, running, decide, step, steps, run, finishes_by, step_by, steps_by, run_to}
use Rattle.model.proofs.Truth.{choice, either, and_iff, or_iff}
use Rattle.model.proofs.WellFormed.{step_fixed}
use Rattle.model.proofs.Ready.{Ready, Fit}
use Rattle.model.proofs.Step.{end_tick_late, step_clock, step_ended}
use Rattle.model.proofs.Run.{steps_ready, Leaves, steps_leave}

-- ---- one step of it

-- A step that finishes later is not done, nor is one behind it.
pub late_stays : (k n : ℕ) (s : State) → finishes_by k s ≡ false → steps_by k n s ≡ s
unfolding steps_by step_by
late_stays k zero s e = refl
late_stays k (suc n) s e = rw e (late_stays k n s e)

-- A step that finishes by k is done.
pub timely_goes : (k n : ℕ) (s : State) → finishes_by k s ≡ true → steps_by k (suc n) s ≡ steps_by k n (step s)
unfolding steps_by step_by
timely_goes k n s e = rw e

-- An ended record stays as it is.
pub ended_stays : (k n : ℕ) (s : State) → running s ≡ false → steps_by k n s ≡ s
unfolding steps_by step_by
ended_stays k zero s e = refl
ended_stays k (suc n) s e =
    ap (steps_by k n) (choice (λ (t : State). t ≡ s) (finishes_by k s) _ _ (λ a. step_ended s e) (λ a. refl)) ∙ ended_stays k n s e

-- ---- so many steps

-- What is done by a tick is so many steps.
pub record Done (k n : ℕ) (s : State) : Type 0 where
  pub count : ℕ
  pub state : steps_by k n s ≡ steps count s

pub by_steps : (k n : ℕ) (s : State) → Done k n s
unfolding steps_by steps
by_steps k zero s = record { count = 0; state = refl }
by_steps k (suc n) s =
    ⊎_elim
    (λ (e : finishes_by k s ≡ true).
    let h = by_steps k n (step s) in record { count = suc h.count; state = timely_goes k n s e ∙ h.state })
    (λ (e : finishes_by k s ≡ false). record { count = 0; state = late_stays k (suc n) s e })
    (either (finishes_by k s))

-- ---- at the limit

-- No step finishes beyond the limit.
pub finish_limited : (s : State) → s.control.clock ≤ s.fixed.limit → finish s (decide s) ≤ s.fixed.limit
unfolding finish decide in_limit beyond_limit
finish_limited s c =
    choice (λ (d : Decision). finish s d ≤ s.fixed.limit) (running s) _ _
    (λ r. choice (λ (d : Decision). finish s d ≤ s.fixed.limit) (beyond_limit s (plan s (fetch s))) _ _ (λ b. le_refl _)
    (λ b. in_limit_lem (plan s (fetch s)) b))
    (λ r. c)
  where
    in_limit_lem : (d : Decision) → beyond_limit s d ≡ false → finish s d ≤ s.fixed.limit
    in_limit_lem d b = let h = simp or_iff at b in ltb-false s.fixed.limit (finish s d) h.0

-- So a tick at the limit or above it bars none.
pub all_timely : (k : ℕ) (s : State) → s.control.clock ≤ s.fixed.limit → s.fixed.limit ≤ k → finishes_by k s ≡ true
unfolding finishes_by
all_timely k s c l = le-leb (finish s (decide s)) k (le_trans (finish_limited s c) l)

pub unbarred : (k n : ℕ) (s : State) → s.control.clock ≤ s.fixed.limit → s.fixed.limit ≤ k → steps_by k n s ≡ steps n s
unfolding steps_by steps
unbarred k zero s c l = refl
unbarred k (suc n) s c l =
    timely_goes k n s (all_timely k s c l)
    ∙ unbarred k n (step s) (rw (step_fixed s, step_clock s) (finish_limited s c)) (rw (step_fixed s) l)

-- A run to the limit, or to a tick above it, is the run.
pub run_to_end : (k : ℕ) (s : State) → Ready s → s.fixed.limit ≤ k → run_to k s ≡ run s
unfolding run_to run
run_to_end k s r l = unbarred k _ s r.fit.clock l

-- ---- what it keeps

-- A run to a tick of a well-formed record gives a well-formed record, and leaves what a step leaves.
pub run_to_ready : (k : ℕ) (s : State) → Ready s → Ready (run_to k s)
unfolding run_to
run_to_ready k s r =
    let h = by_steps k (s.fixed.limit - s.control.clock + 1) s in subst Ready (sym h.state) (steps_ready h.count s r)

pub run_to_leaves : (k : ℕ) (s : State) → Ready s → Leaves s (run_to k s)
unfolding run_to
run_to_leaves k s r =
    let h = by_steps k (s.fixed.limit - s.control.clock + 1) s in
    subst (Leaves s) (sym h.state) (steps_leave h.count s r)

-- ---- a tick that is past

-- What is closed is an upcall.
abbrev Closing : State → Decision → Type 0
Closing s rest = Unit
Closing s spend = Unit
Closing s (stall why) = Unit
Closing s (close cause) = in_upcall s.control ≡ true
Closing s (carry ticks change) = Unit

-- An op that passes its check closes one only if it is op 19, in an upcall.
row_closing : (s : State) (w : ℕ) (op : Op) → (table s w op).check ≡ true → Closing s (passed (table s w op).ticks (table s w op).effect)
unfolding table
row_closing s w immediate e = tt
row_closing s w (arithmetic f) e = tt
row_closing s w load e = tt
row_closing s w store e = tt
row_closing s w (branch f) e = tt
row_closing s w jump e = tt
row_closing s w read_clock e = tt
row_closing s w (set_label f) e = tt
row_closing s w set_pair e = tt
row_closing s w upcall e = tt
row_closing s w end_upcall e = e
row_closing s w gate_call e = tt
row_closing s w gate_return e = tt
row_closing s w halt e = tt

attempt_closing : (s : State) (w : ℕ) (op : Op) → Closing s (attempt s (table s w op))
unfolding attempt
attempt_closing s w op =
    choice (Closing s) (table s w op).check _ _ (row_closing s w op)
    (λ e. choice (Closing s) ((table s w op).strict && in_upcall s.control) _ _
    (λ k. ((and_iff (table s w op).strict (in_upcall s.control)).0 k).1) (λ k. tt))

in_time_closing : (s : State) (d : Decision) → Closing s d → Closing s (in_time s d)
in_time_closing s rest h = tt
in_time_closing s spend h = tt
in_time_closing s (stall why) h = tt
in_time_closing s (close cause) h = h
in_time_closing s (carry ticks change) h =
    choice (Closing s) (in_upcall s.control && ltb (end_tick s) (s.control.clock + ticks)) _ _
    (λ e. ((and_iff (in_upcall s.control) (ltb (end_tick s) (s.control.clock + ticks))).0 e).0) (λ e. tt)

plan_closing : (s : State) (f : Fetched) → Closing s (plan s f)
unfolding fault
plan_closing s (failed why) =
    choice (Closing s) (in_upcall s.control) _ _ (λ e. e)
    (λ e. choice (Closing s) (eqb s.control.pc s.fixed.errorpc) _ _ (λ k. tt) (λ k. tt))
plan_closing s (fetched w op) = in_time_closing s (attempt s (table s w op)) (attempt_closing s w op)

decide_closing : (s : State) → Closing s (decide s)
unfolding decide in_limit
decide_closing s =
    choice (Closing s) (running s) _ _
    (λ r. choice (Closing s) (beyond_limit s (plan s (fetch s))) _ _ (λ e. tt) (λ e. plan_closing s (fetch s)))
    (λ r. tt)

-- A step of a fit record finishes at its clock or later.
finish_later : (s : State) → Fit (machine_of s) → s.control.clock ≤ finish s (decide s)
unfolding finish
finish_later s f = go (decide s) (decide_closing s)
  where
    go : (d : Decision) → Closing s d → s.control.clock ≤ finish s d
    go rest h = le_refl _
    go spend h = f.clock
    go (stall why) h = le_refl _
    go (close cause) h = omega (arith, end_tick_late s f h)
    go (carry ticks change) h = omega arith

-- So a run to a tick that is past does nothing.
pub past_stays : (k : ℕ) (s : State) → Fit (machine_of s) → k < s.control.clock → run_to k s ≡ s
unfolding run_to finishes_by
past_stays k s f h = late_stays k _ s (lt-leb (finish s (decide s)) k (omega (arith, h, finish_later s f)))
