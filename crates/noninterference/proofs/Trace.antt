-- The trace of a sequence of calls is the states of so many steps in a row, whatever the calls were; and the state at a
-- reached tick is one of these, at which the machine rests.
-- Assumes nothing.
use Prim.Native.Nat.{ℕ, zero, suc, ◌+◌, ◌-◌, ◌<◌, ◌≤◌, min}
use mathlib.Core.Path.{◌≡◌, refl, sym, ap, ap₂, ◌∙◌, subst}
use mathlib.Core.Logic.{inl, inr, ⊎_elim}
use mathlib.Core.Bool.{true, false, ◌&&◌, and-false}
use mathlib.Core.List.{List, [], ◌∷◌, ◌++◌}
use native.Mathlib.Nat.{zero-add, suc-add, lt_of_lt_of_le, min-le_right, min-le_left}
use native.Mathlib.Omega.{arith}
use lib.Dec.{leb, ltb}
use lib.ListN.{length, take, drop, length-take, drop_of_length-le}
use lib.Seq.{sets, set-get_or, drop-cons}
use borrow.Author.Tests.{leb-true, leb-false, ltb-true, ltb-false, le-ltb, lt-leb}
use Rattle.model.specs.declared.Request.{Request}
use Rattle.model.specs.declared.Request.TheVariants.{Step, Run, RunTo}
use Rattle.model.specs.Record.{Bank, State, machine_of, lent}
use Rattle.model.specs.WellFormed.{lent_whole}
use Rattle.model.specs.Step.{running, step, steps, run, finishes_by, steps_by, run_to}
use Rattle.causes.specs.declared.Cause.TheVariants.{ShortMemory}
use Rattle.model.specs.Answer.{answer, refused, done, work}
use Rattle.noninterference.specs.Noninterference.{Lent, whole, part, Invocation, lend, regain, answered, after, after_all, run_states, work_states, call_states, trace, final, at_tick, reached, StepsProvisos}
use Rattle.model.proofs.Truth.{either, not_iff}
use Rattle.model.proofs.Ready.{fits, whole_lent, Ready}
use Rattle.model.proofs.Step.{step_ready, step_passes}
use Rattle.model.proofs.Run.{steps_ended, steps_add, steps_ready}
use Rattle.model.proofs.RunTo.{late_stays, ended_stays, timely_goes}
use Rattle.noninterference.proofs.Paths.{Allowed, Rests}

-- ---- so many steps in a row

-- The states after each of m steps.
abbrev pub path : ℕ → State → List State
path zero s = []
path (suc m) s = step s ∷ path m (step s)

-- First m and then n.
path_append : (m n : ℕ) (s : State) → path m s ++ path n (steps m s) ≡ path (m + n) s
unfolding steps
path_append zero n s = rw zero-add
path_append (suc m) n s = rw suc-add (ap (λ xs. step s ∷ xs) (path_append m n (step s)))

-- The last of them.
final_path : (m : ℕ) (s : State) → final s (path m s) ≡ steps m s
unfolding final steps
final_path zero s = refl
final_path (suc m) s = final_path m (step s)

-- A list of states is so many steps in a row, the last of which is t.
pub record Row (s : State) (xs : List State) (t : State) : Type 0 where
  pub count : ℕ
  pub states : xs ≡ path count s
  pub last : t ≡ steps count s

-- ---- one call

-- A run's states are so many steps in a row.
pub run_row : (n : ℕ) (s : State) → Row s (run_states running n s) (steps n s)
unfolding run_states steps
run_row zero s = record { count = 0; states = refl; last = refl }
run_row (suc n) s =
    ⊎_elim
    (λ (r : running s ≡ true).
    let h = run_row n (step s) in
    record { count = suc h.count; states = rw r (ap (λ xs. step s ∷ xs) h.states); last = h.last })
    (λ (r : running s ≡ false). record { count = 0; states = rw r; last = steps_ended (suc n) s r })
    (either (running s))

-- So are those of a run to a tick.
run_to_row : (k n : ℕ) (s : State) → Row s (run_states (λ t. running t && finishes_by k t) n s) (steps_by k n s)
unfolding run_states steps steps_by
run_to_row k zero s = record { count = 0; states = refl; last = refl }
run_to_row k (suc n) s =
    ⊎_elim
    (λ (r : running s ≡ true).
    ⊎_elim
    (λ (e : finishes_by k s ≡ true).
    let h = run_to_row k n (step s) in
    record { count = suc h.count; states = rw (r, e) (ap (λ xs. step s ∷ xs) h.states); last = timely_goes k n s e ∙ h.last })
    (λ (e : finishes_by k s ≡ false). record { count = 0; states = rw (r, e); last = late_stays k (suc n) s e })
    (either (finishes_by k s)))
    (λ (r : running s ≡ false). record { count = 0; states = rw r; last = ended_stays k (suc n) s r })
    (either (running s))

-- What a call does is so many steps in a row.
work_row : (k : Request) (s : State) → Row s (work_states k s) (work k s)
unfolding work_states run steps run_to
work_row Step s = record { count = 1; states = refl; last = refl }
work_row Run s = run_row (s.fixed.limit - s.control.clock + 1) s
work_row (RunTo k) s = run_to_row k (s.fixed.limit - s.control.clock + 1) s

-- A part that is lent is shorter than the size.
part_short : (size from count : ℕ) (xs : List ℕ) → 1 ≤ size → length (lend size (part from count) xs) < size
unfolding lend
part_short size from count xs h =
    rw length-take
    (omega (arith, min-le_left (min count (size - 1)) (length (drop from xs)), min-le_right count (size - 1)))

-- A part that is left as it was lent leaves the whole as it was.
part_left : (n i : ℕ) (xs : List ℕ) → sets xs i (take n (drop i xs)) ≡ xs
part_left zero i xs = refl
part_left (suc n) i xs =
    ⊎_elim
    (λ (h : ltb i (length xs) ≡ true).
    ap (λ (ys : List ℕ). sets xs i (take (suc n) ys)) (drop-cons xs i 0 (ltb-true i (length xs) h))
    ∙ ap (λ (ys : List ℕ). sets ys (suc i) (take n (drop (suc i) xs))) (set-get_or xs i 0) ∙ part_left n (suc i) xs)
    (λ (h : ltb i (length xs) ≡ false). rw (drop_of_length-le xs (ltb-false i (length xs) h)))
    (either (ltb i (length xs)))

-- What is lent and left as it was leaves the list.
regain_lent : (size : ℕ) (l : Lent) (xs : List ℕ) → regain l xs (lend size l xs) ≡ xs
unfolding regain lend
regain_lent size whole xs = refl
regain_lent size (part from count) xs = part_left (min count (size - 1)) from xs

-- The memory that a call is lent.
abbrev lent_of : Invocation → State → Bank
lent_of q s =
    lent (lend s.fixed.size q.words s.memory.values) (lend s.fixed.size q.labels s.memory.labels)

-- The answer of a call that is lent too little: refusal 6.
answer_short : (q : Invocation) (s : State) → Ready s
    → lent_whole s.fixed.size (lent_of q s) ≡ false
    → answered q s ≡ refused ShortMemory (machine_of s) (lent_of q s)
unfolding answered answer
answer_short q s r e = rw (fits (machine_of s) r.fit, e)

-- The answer of a call that is lent all.
pub answer_whole : (k : Request) (s : State) → Ready s
    → answered (record { request = k; words = whole; labels = whole }) s ≡ done (work k s)
unfolding answered answer lend
answer_whole k s r = rw (fits (machine_of s) r.fit, whole_lent _ s.memory r.words r.labels)

-- A call that is lent too little changes nothing.
short_row : (q : Invocation) (s : State) → Ready s
    → lent_whole s.fixed.size (lent_of q s) ≡ false → Row s (call_states q s) (after q s)
unfolding call_states after steps
short_row q s r e =
    let h = answer_short q s r e in
    record {
      count = 0;
      states = rw h refl;
      last =
          rw (h, regain_lent s.fixed.size q.words s.memory.values, regain_lent s.fixed.size q.labels s.memory.labels);
    }

-- A call that is lent all does its work.
whole_row : (k : Request) (s : State) → Ready s
    → Row s (call_states (record { request = k; words = whole; labels = whole }) s) (after (record { request = k; words = whole; labels = whole }) s)
unfolding call_states after regain
whole_row k s r =
    let h = answer_whole k s r in
    let w = work_row k s in
    record { count = w.count; states = rw h w.states; last = rw h w.last }

-- Lent a part of the words or of the labels is lent too little.
short_words : (size : ℕ) (m : Bank) → length m.values < size → lent_whole size m ≡ false
unfolding lent_whole
short_words size m h = rw (lt-leb size (length m.values) h)

short_labels : (size : ℕ) (m : Bank) → length m.labels < size → lent_whole size m ≡ false
unfolding lent_whole
short_labels size m h = rw (lt-leb size (length m.labels) h, and-false)

-- Every call's states are so many steps in a row, the last of which is what its answer gives back.
pub call_row : (k : Request) (w l : Lent) (s : State) → Ready s
    → Row s (call_states (record { request = k; words = w; labels = l }) s) (after (record { request = k; words = w; labels = l }) s)
call_row k whole whole s r = whole_row k s r
call_row k whole (part from count) s r =
    short_row _ s r (short_labels _ _ (part_short _ from count s.memory.labels r.fit.fixed.size_low))
call_row k (part from count) whole s r =
    short_row _ s r (short_words _ _ (part_short _ from count s.memory.values r.fit.fixed.size_low))
call_row k (part from count) (part from' count') s r =
    short_row _ s r (short_words _ _ (part_short _ from count s.memory.values r.fit.fixed.size_low))

-- ---- a sequence of calls

-- The trace of a sequence of calls is so many steps in a row.
pub trace_row : (qs : List Invocation) (s : State) → Ready s → Row s (trace qs s) (after_all qs s)
unfolding trace after_all steps
trace_row [] s r = record { count = 0; states = refl; last = refl }
trace_row (q ∷ qs) s r =
    let h = call_row q.request q.words q.labels s r in
    let t = subst Ready (sym h.last) (steps_ready h.count s r) in
    let g = trace_row qs (after q s) t in
    record {
      count = h.count + g.count;
      states =
          ap₂ (λ (xs ys : List State). xs ++ ys) h.states (g.states ∙ ap (path g.count) h.last)
          ∙ path_append h.count g.count s;
      last = g.last ∙ ap (steps g.count) h.last ∙ sym (steps_add h.count g.count s);
    }

-- After a sequence of calls the trace's last state is the record and memory that the last answer gives back.
pub trace_last : (qs : List Invocation) (s : State) → Ready s → final s (trace qs s) ≡ after_all qs s
trace_last qs s r =
    let h = trace_row qs s r in ap (final s) h.states ∙ final_path h.count s ∙ sym h.last

-- ---- the state at a reached tick

-- Past k no state is taken.
pub past : (k m : ℕ) (s x : State) → Ready x → k < x.control.clock → at_tick k s (path m x) ≡ s
unfolding at_tick
past k zero s x r h = refl
past k (suc m) s x r h =
    let g : k < (step x).control.clock = lt_of_lt_of_le h (step_passes x r).rises in
    rw (lt-leb (step x).control.clock k g) (past k m s (step x) (step_ready x r) g)

-- The state at tick k: after so many steps, at which the machine rests, and the provisos of these steps.
pub record Arrived (ℓ k : ℕ) (s x : State) : Type 0 where
  pub count : ℕ
  pub state : x ≡ steps count s
  pub rests : Rests k (steps count s)
  pub allowed : Allowed ℓ count s

pub arrive : (ℓ k m : ℕ) (s : State) → Ready s → s.control.clock ≤ k → reached k s (path m s) ≡ true
    → StepsProvisos ℓ k s (path m s) → Arrived ℓ k s (at_tick k s (path m s))
unfolding at_tick reached final StepsProvisos steps
arrive ℓ k zero s r c h p =
    record {
      count = 0;
      state = refl;
      rests = record { clock = c; still = inl ((not_iff (running s)).0 (rw (le-ltb k s.control.clock c) at h)) };
      allowed = tt;
    }
arrive ℓ k (suc m) s r c h p =
    ⊎_elim
    (λ (e : leb (step s).control.clock k ≡ true).
    let g = leb-true (step s).control.clock k e in
    let a = arrive ℓ k m (step s) (step_ready s r) g h p.1 in
    record { count = suc a.count; state = rw e a.state; rests = a.rests; allowed = (p.0 g, a.allowed) })
    (λ (e : leb (step s).control.clock k ≡ false).
    let g = leb-false (step s).control.clock k e in
    record {
      count = 0;
      state = rw e (past k m s (step s) (step_ready s r) g);
      rests = record { clock = c; still = inr g };
      allowed = tt;
    })
    (either (leb (step s).control.clock k))
