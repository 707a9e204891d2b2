-- The loop: what holds whenever its test is reached, and what it promises in the end.
-- Assumes nothing.
use Prim.Native.Nat.{ℕ, ◌<◌, ◌≤◌}
use mathlib.Core.Path.{◌≡◌, refl, sym, ap, ◌∙◌, subst}
use mathlib.Core.Logic.{⊎_elim}
use mathlib.Core.Bool.{Bool, true, false, not, ◌&&◌, cond}
use mathlib.Core.List.{List}
use native.Mathlib.Nat.{le_refl}
use native.Mathlib.Omega.{arith}
use lib.Dec.{ltb, eqb}
use lib.ListN.{length}
use borrow.Author.Tests.{eqb-true, ltb-true, ltb-false, le-ltb}
use Rattle.std.specs.Prelude.{Option, Some, None, is_some}
use Rattle.model.specs.declared.Fixed.{Fixed}
use Rattle.model.specs.declared.Control.{Control}
use Rattle.model.specs.Record.{State, machine_of, state_from}
use Rattle.model.specs.Step.{running, run}
use Rattle.certificates.specs.Certificate.{attempts, leads_within, whole, breaks, certify}
use Rattle.certificates.specs.Certificate as model
use Rattle.model.proofs.Truth.{choice, either, and_iff}
use Rattle.model.proofs.Ready.{fits, whole_lent, ready, Ready}
use Rattle.model.proofs.RunTo.{run_to_end}
use Rattle.pacing.specs.declared.Pace.{Pace}
use Rattle.pacing.specs.declared.Pace.TheVariants.{Onward, Stride}
use Rattle.pacing.proofs.Fitting.{ready_fitting}
use Rattle.engine.specs.Stride.{stride, run_count, strode}
use Rattle.engine.specs.Advance.{paced, advanced}
use Rattle.certify.specs.declared.BreakCause.TheVariants.{Release, Gate, Timing}
use Rattle.certify.specs.declared.Break.{Break}
use Rattle.certify.specs.declared.BreakCause.{BreakCause}
use Rattle.certify.specs.Certified.{break_number, certificate_of}
use Rattle.certify.specs.Inner.Breaks.{break_with}
use Rattle.certify.specs.Inner.Watch.{first_with, steps_left, Loaded, Watched}
use Rattle.certify.proofs.Turn.{break_of, break_with_lem, break_none, resume, resume_start, resume_none, resume_found, resume_watch, first_of, first_none, Turned, turn}
use Rattle.certify.proofs.Enough.{count_enough, ended_enough, steps_enough, resume_enough, Strode, strode_behind}

-- The run of s has come to these parts, with so many steps left to look at; `found` is its first break, or no break.
pub record Watching (ℓ : ℕ) (s : State) (fixed : Fixed) (control : Control) (values labels words marks : List ℕ) (found : Option Break) (left : ℕ) : Type 0 where
  pub certificate :
      certify ℓ s
      ≡ resume ℓ (certificate_of found) (run_count (state_from fixed control values labels words marks)) (state_from fixed control values labels words marks)
  pub quiet :
      (certificate_of found).cause ≡ 0
      → (breaks ℓ (state_from fixed control values labels words marks) ≡ false) × (certificate_of found ≡ whole)
  pub run : run s ≡ run (state_from fixed control values labels words marks)
  pub ready : Ready (state_from fixed control values labels words marks)
  pub counted : left ≡ steps_left fixed.limit control
  pub long : length words ≡ length s.memory.values

-- There is no break where the certificate has no cause.
none_cause : (found : Option Break) → not (is_some found) ≡ eqb (certificate_of found).cause 0
none_cause None = refl
none_cause (Some b) = cause_some b.cause
  where
    cause_some : (c : BreakCause) → false ≡ eqb (break_number c) 0
    cause_some Release = refl
    cause_some Gate = refl
    cause_some Timing = refl

-- The loop's test, as the library's method has made it.
pub tested : (found : Option Break) (none x : Bool) {y : Bool} → is_some found ≡ not none → (none && x) ≡ y
    → (not (is_some found) && x) ≡ y
tested found true x e t = rw e t
tested found false x e t = rw e t

-- The loaded state is ready.
pub loaded_ready : {s : State} → Loaded s → Ready s
loaded_ready {s} l = ready s l.typed l.formed l.whole

-- There nothing was done yet.
pub watching_start : {ℓ : ℕ} {fixed : Fixed} {control : Control} {values labels words marks : List ℕ} {found : Option Break} {left : ℕ} {opened : Bool}
    → Ready (state_from fixed control values labels words marks) → opened ≡ leads_within ℓ fixed fixed.count
    → certificate_of found ≡ break_with ℓ opened control → left ≡ steps_left fixed.limit control
    → Watching ℓ (state_from fixed control values labels words marks) fixed control values labels words marks found left
watching_start {ℓ} {fixed} {control} {values} {labels} {words} {marks} {found} {left} r o e l =
    record {
      certificate = resume_start ℓ s ∙ ap (λ (c : model.Certificate). resume ℓ c (run_count s) s) (sym is);
      quiet = λ z. let q = break_none ℓ s (ap (λ (c : model.Certificate). c.cause) (sym is) ∙ z) in (q.0, is ∙ q.1);
      run = refl;
      ready = r;
      counted = l;
      long = refl;
    }
  where
    s : State
    s = state_from fixed control values labels words marks

    is : certificate_of found ≡ break_of ℓ s
    is = e ∙ break_with_lem ℓ s o

-- What is asked for of a ready state is done.
there : (pace : Pace) (s : State) → Ready s → advanced pace s ≡ paced pace s
there pace s r =
    ap (λ (b : Bool). cond b (paced pace s) s)
    (ready_fitting s (fits (machine_of s) r.fit) (whole_lent s.fixed.size s.memory r.words r.labels))

module _ {ℓ : ℕ} {s : State} {fixed : Fixed} {control : Control} {values labels words marks : List ℕ} {found : Option Break} {left : ℕ} (h : Watching ℓ s fixed control values labels words marks found left) where
  abbrev now : State
  now = state_from fixed control values labels words marks

  -- A turn: no break was found, and a step is left.
  module _ (test : (not (is_some found) && ltb 0 left) ≡ true) where
    more : (eqb (certificate_of found).cause 0 && ltb 0 left) ≡ true
    more = rw none_cause at test

    -- The test's two parts.
    none : eqb (certificate_of found).cause 0 ≡ true
    none = ((and_iff (eqb (certificate_of found).cause 0) (ltb 0 left)).0 more).0

    some : 0 < left
    some = ltb-true 0 left ((and_iff (eqb (certificate_of found).cause 0) (ltb 0 left)).0 more).1

    -- What was left is what is left of a run.
    all_left : left ≡ run_count now
    all_left =
        ⊎_elim (λ (x : eqb control.end 0 ≡ true). h.counted ∙ rw x)
        (λ (x : eqb control.end 0 ≡ false). let z : left ≡ 0 = h.counted ∙ rw x in absurd (omega (arith, z, some)))
        (either (eqb control.end 0))

    -- What the stride from here is in the model.
    turned : Turned ℓ (run_count now) now (stride (run_count now) now)
    turned = turn ℓ (run_count now) now (omega arith) (h.quiet (eqb-true (certificate_of found).cause 0 none)).0

    behind : Strode now (stride (run_count now) now)
    behind = strode_behind (run_count now) now h.ready (count_enough now) (omega arith)

    -- The stride was done.
    module _ {r : Control} {values' labels' words' : List ℕ} (e : state_from fixed r values' labels' words' marks ≡ advanced Stride now) where
      -- The state that the engine left, and the steps that the model's stride leaves.
      abbrev then : State
      then = state_from fixed r values' labels' words' marks

      abbrev rest : ℕ
      rest = (stride (run_count now) now).left

      -- The one is where the other ends.
      same : strode now ≡ then
      same = sym (e ∙ there Stride now h.ready)

      turned_there : Turned ℓ (run_count now) now (record { state = then; left = rest })
      turned_there = subst (λ (t : State). Turned ℓ (run_count now) now (record { state = t; left = rest })) same turned

      behind_there : Strode now (record { state = then; left = rest })
      behind_there = subst (λ (t : State). Strode now (record { state = t; left = rest })) same behind

      -- The clock has not passed the limit.
      pub watching_clock : r.clock ≤ fixed.limit
      watching_clock = behind_there.ready.fit.clock

      -- Fewer steps are left.
      pub watching_less : {left' : ℕ} → left' ≡ steps_left fixed.limit r → left' < left
      watching_less l =
          rw l
          (choice (λ (n : ℕ). n < left) (eqb r.end 0) _ _
          (λ x.
          let runs : running then ≡ true = unfold running in x in
          omega (arith, behind_there.grown runs, all_left, h.ready.fit.clock, behind_there.ready.fit.clock))
          (λ x. some))

      -- What was found is the first break, or has no cause.
      pub watching_turn : {opened attempted : Bool} {found' : Option Break} {left' : ℕ} → opened ≡ leads_within ℓ fixed fixed.count
          → attempted ≡ attempts ℓ now → certificate_of found' ≡ first_with ℓ opened attempted control.pc r
          → left' ≡ steps_left fixed.limit r → length words' ≡ length words
          → Watching ℓ s fixed r values' labels' words' marks found' left'
      unfolding run first_of
      watching_turn {opened} {attempted} {found'} {left'} o a f l long =
          record {
            certificate =
                h.certificate ∙ resume_watch ℓ (run_count now) (certificate_of found) now none ∙ turned_there.watched
                ∙ ap (λ (c : model.Certificate). resume ℓ c rest then) (sym is)
                ∙ resume_enough ℓ rest (run_count then) (certificate_of found') then behind_there.ready (λ z. (still z).0) behind_there.enough
                (count_enough then);
            quiet = still;
            run =
                h.run ∙ turned_there.run
                ∙ steps_enough rest (run_count then) then behind_there.ready behind_there.enough (count_enough then);
            ready = behind_there.ready;
            counted = l;
            long = long ∙ h.long;
          }
        where
          is : certificate_of found' ≡ first_of ℓ now then
          is = f ∙ rw (a, break_with_lem ℓ then o)

          still : (certificate_of found').cause ≡ 0 → (breaks ℓ then ≡ false) × (certificate_of found' ≡ whole)
          still z =
              let q = first_none ℓ now then (ap (λ (c : model.Certificate). c.cause) (sym is) ∙ z) in (q.0, is ∙ q.1)

  -- The end: a break was found, or no step is left.
  pub watching_end : {r : Control} {values' labels' words' : List ℕ} → (not (is_some found) && ltb 0 left) ≡ false
      → state_from fixed r values' labels' words' marks ≡ advanced (Onward fixed.limit) now → Watched ℓ s found words' marks
  watching_end test e =
      record {
        certificate = sym (h.certificate ∙ all);
        memory = ap (λ (t : State). t.memory) (e ∙ there (Onward fixed.limit) now h.ready ∙ ended ∙ sym h.run);
      }
    where
      over : (eqb (certificate_of found).cause 0 && ltb 0 left) ≡ false
      over = rw none_cause at test

      -- A run to the limit is the run.
      ended : paced (Onward fixed.limit) now ≡ run now
      ended = rw (le-ltb fixed.limit control.clock h.ready.fit.clock) (run_to_end fixed.limit now h.ready (le_refl _))

      -- Where no step is left the record has ended.
      halted : left ≡ 0 → running now ≡ false
      halted z =
          ⊎_elim
          (λ (x : eqb control.end 0 ≡ true).
          let y : left ≡ run_count now = h.counted ∙ rw x in absurd (omega (arith, y, z)))
          (λ (x : eqb control.end 0 ≡ false). unfold running in x)
          (either (eqb control.end 0))

      all : resume ℓ (certificate_of found) (run_count now) now ≡ certificate_of found
      all =
          ⊎_elim
          (λ (x : eqb (certificate_of found).cause 0 ≡ true).
          let z : ltb 0 left ≡ false = rw x at over in
          let n : left ≡ 0 = omega (arith, ltb-false 0 left z) in
          resume_enough ℓ (run_count now) 0 (certificate_of found) now h.ready (λ q. (h.quiet q).0) (count_enough now) (ended_enough 0 now (halted n))
          ∙ resume_none ℓ (certificate_of found) now (λ q. (h.quiet q).1))
          (λ (x : eqb (certificate_of found).cause 0 ≡ false). resume_found ℓ (run_count now) (certificate_of found) now x)
          (either (eqb (certificate_of found).cause 0))
