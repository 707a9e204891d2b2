-- Laws about the hot loop: what holds whenever its test is reached, and what it promises where it pauses.
-- Assumes nothing.
use Rattle.std.proofs.Common.{◌≡◌, ℕ, zero, suc, ◌+◌, ◌-◌, ◌<◌, ◌≤◌, Bool, true, false, cond, ◌||◌, ltb, ◌⊎◌, List, length, get_or, sym, refl, ap, ◌∙◌, ap₂, subst, subst₂, inl, inr, arith, ltb-false, ltb-true, le-ltb, lt-ltb}
use Rattle.principals.specs.Principals.{may_go}
use Rattle.labels.specs.Label.{principals, label_count, restrictions, lacking, flows}
use Rattle.principals.proofs.Whole.{restricted_flows}
use Rattle.model.specs.Numbers.{outside_memory, unreadable}
use Rattle.model.specs.Record.{State, lent, value_at, label_at, newest, in_upcall}
use Rattle.model.specs.Word.{op_field, decode}
use Rattle.model.specs.Step.{failed, fetch, known, end_tick, step}
use Rattle.model.specs.WellFormed.{lent_whole}
use Rattle.model.proofs.Truth.{clash, or_iff, or_true}
use Rattle.model.proofs.Ready.{whole_lengths, whole_lent}
use Rattle.parts.specs.declared.stages.Reason.{Reason}
use Rattle.parts.specs.declared.stages.Reason.TheVariants.{Out, Late, Outside, Unreadable, Failed, Rest}
use Rattle.turns.specs.declared.Context.{Context}
use Rattle.sprint.specs.declared.Place.{Place}
use Rattle.sprint.specs.declared.Pause.{Pause}
use Rattle.turns.specs.declared.Turn.{Turn}
use Rattle.turns.specs.declared.Turn.TheVariants.{Going, Stopping}
use Rattle.turns.specs.Turned.{Mirrors}
use Rattle.sprint.specs.Skim.{is_common, Skim, skim}
use Rattle.sprint.specs.Sprint.{state_with, Timed, Stopped, Paused, Ran, Sprinted}
use Rattle.sprint.specs.Inner.Turns.{Did}

-- ---- one step more

-- Where the first of some steps is common or not, one step more of the rest is one step more of all.
on_later : (n : ℕ) (s t : State) (b : Bool)
    → cond b (skim n (step s)) (record { state = s; left = suc n }) ≡ record { state = t; left = 0 }
    → (skim n (step s) ≡ record { state = t; left = 0 } → skim (suc n) (step s) ≡ record { state = step t; left = 0 })
    → cond b (skim (suc n) (step s)) (record { state = s; left = suc (suc n) }) ≡ record { state = step t; left = 0 }
on_later n s t true e f = f e
on_later n s t false e f = let z : suc n ≡ 0 = ap (λ (k : Skim). k.left) e in absurd (omega (arith, z))

-- Common steps that came to an end with none left, and one more.
pub skim_on : (n : ℕ) (s t : State) → skim n s ≡ record { state = t; left = 0 } → is_common t ≡ true
    → skim (suc n) s ≡ record { state = step t; left = 0 }
unfolding skim
skim_on zero s t e c = let q : s ≡ t = ap (λ (k : Skim). k.state) e in rw (q, c)
skim_on (suc n) s t e c = on_later n s t (is_common s) e (λ q. skim_on n (step s) t q c)

-- A reason to stop is why the loop paused.
pub pauses : (reason : Reason) (left deadline : ℕ) (s : State) → Stopped reason deadline s → Paused reason left deadline s
pauses Out left deadline s e = absurd e
pauses Late left deadline s e = e
pauses Outside left deadline s e = e
pauses Unreadable left deadline s e = e
pauses Failed left deadline s e = e
pauses (Rest w) left deadline s e = e

-- ---- the fetch

-- The pc is not below the size.
pub outside : (s : State) → s.fixed.size ≤ s.control.pc → fetch s ≡ failed outside_memory
unfolding fetch
outside s h = rw (le-ltb s.control.pc s.fixed.size h)

module _ (s : State) {at : ℕ} (i : at ≡ s.control.pc) (h : s.control.pc < s.fixed.size) (q : s.control.pair.pc < label_count) {held lacked : ℕ} (el : lacked ≡ lacking s.control.pair.pc) (er : held ≡ restrictions (get_or s.memory.labels at 0)) {b : Bool} (e : b ≡ may_go held lacked) where
  -- What the code tests is that the word's label flows to the pc label.
  allowed : b ≡ flows (get_or s.memory.labels s.control.pc 0) s.control.pair.pc
  allowed =
      e ∙ ap₂ may_go (er ∙ ap (λ (k : ℕ). restrictions (get_or s.memory.labels k 0)) i) el
      ∙ restricted_flows principals (get_or s.memory.labels s.control.pc 0) s.control.pair.pc q

  -- It does not.
  pub not_readable : b ≡ false → fetch s ≡ failed unreadable
  unfolding fetch label_at
  not_readable f = rw (lt-ltb s.control.pc s.fixed.size h, ← allowed, f)

  -- It does: the word is fetched.
  pub readable : b ≡ true → fetch s ≡ known (get_or s.memory.values at 0) (decode (op_field (get_or s.memory.values at 0)))
  unfolding fetch label_at value_at
  readable f = rw (lt-ltb s.control.pc s.fixed.size h, ← allowed, f, i)

-- ---- the loop

-- From one state to another by so many common ops, each of which took a tick or more.
pub record Skims (before after : State) (left left' : ℕ) : Type 0 where
  pub count : ℕ
  pub skims : skim count before ≡ record { state = after; left = 0 }
  pub took : left' + count ≤ left
  pub still : count ≡ 0 → left' ≡ left

-- What holds at the loop's test, of the values at its start and those of now.
pub record Runs (context : Context) (turned marks : List ℕ) (pc₀ left₀ : ℕ) (values₀ words₀ : List ℕ) (pc left : ℕ) (values words : List ℕ) : Type 0 where
  pub run :
      left₀ ≤ context.deadline + 1 → (s : State) (labels : List ℕ) → Mirrors labels turned
      → Timed (state_with s context pc₀ left₀ values₀ labels words₀ marks) context
      → Skims (state_with s context pc₀ left₀ values₀ labels words₀ marks) (state_with s context pc left values labels words marks) left₀ left
  pub fewer : left ≤ left₀
  pub some : 0 < left₀ → 0 < left
  pub long : length words ≡ length words₀
  pub whole : lent_whole context.size (lent words₀ marks) ≡ true

-- It holds at the start.
pub runs_none : {context : Context} {turned marks : List ℕ} {pc left : ℕ} {values words : List ℕ}
    → lent_whole context.size (lent words marks) ≡ true → Runs context turned marks pc left values words pc left values words
unfolding skim
runs_none h =
    record {
      run = λ b s labels m t. record { count = 0; skims = refl; took = omega arith; still = λ e. refl };
      fewer = omega arith;
      some = λ x. x;
      long = refl;
      whole = h;
    }

-- That the state runs, whether it is in an upcall, and its deadline, are the same at every turn.
still_timed : (s : State) (context : Context) (labels marks : List ℕ) (pc₀ left₀ : ℕ) (values₀ words₀ : List ℕ)
    (pc left : ℕ) (values words : List ℕ) → Timed (state_with s context pc₀ left₀ values₀ labels words₀ marks) context
    → Timed (state_with s context pc left values labels words marks) context
unfolding in_upcall newest end_tick
still_timed s context labels marks pc₀ left₀ values₀ words₀ pc left values words h =
    record { running = h.running; upcall = h.upcall; due = h.due }

-- What a turn from this place, with these values and words, does for every state that the loop's view fits.
abbrev pub Does : Context → List ℕ → List ℕ → ℕ → ℕ → List ℕ → List ℕ → Turn → List ℕ → List ℕ → Type 0
Does context turned marks pc left values words turn values' words' =
    (s : State) (labels : List ℕ) → Mirrors labels turned → left ≤ context.deadline + 1
    → Timed (state_with s context pc left values labels words marks) context
    → Did (state_with s context pc left values labels words marks) context.deadline left turn values' words'

module _ {context : Context} {turned marks : List ℕ} {start : Place} {values₀ words₀ : List ℕ} {pc left : ℕ} {values words : List ℕ} (r : Runs context turned marks start.pc start.left values₀ words₀ pc left values words) where
  -- The states of now are still told the truth.
  timed_now : (s : State) (labels : List ℕ) → Timed (state_with s context start.pc start.left values₀ labels words₀ marks) context
      → Timed (state_with s context pc left values labels words marks) context
  timed_now s labels t =
      still_timed s context labels marks start.pc start.left values₀ words₀ pc left values words t

  -- Where the loop pauses, for a reason that holds of every such state.
  pub paused_here : (reason : Reason) {pause : Pause} → pause ≡ record { place = record { pc = pc; left = left }; reason = reason }
      → ((s : State) (labels : List ℕ) → Paused reason left context.deadline (state_with s context pc left values labels words marks))
      → Sprinted context start values₀ turned words₀ marks pause values words
  paused_here reason q h =
      rw q (record {
        short = λ x. clash r.whole x;
        ran =
            λ a d s labels m t.
            let k = r.run d s labels m t in
            record { count = k.count; skims = k.skims; took = k.took; still = k.still; some = r.some; paused = h s labels };
      })

  -- Where no tick is left.
  pub ran_out : {pause : Pause} → pause ≡ record { place = record { pc = pc; left = left }; reason = Out } → left ≤ 0
      → Sprinted context start values₀ turned words₀ marks pause values words
  ran_out q h = paused_here Out q (λ s labels. omega arith)

  -- Where the loop itself stops.
  pub stopped : (reason : Reason) {pause : Pause} → pause ≡ record { place = record { pc = pc; left = left }; reason = reason }
      → ((s : State) (labels : List ℕ) → Stopped reason context.deadline (state_with s context pc left values labels words marks))
      → Sprinted context start values₀ turned words₀ marks pause values words
  stopped reason q h = paused_here reason q (λ s labels. pauses reason left context.deadline _ (h s labels))

  module _ {turn : Turn} {values' words' : List ℕ} (h : Does context turned marks pc left values words turn values' words') where
    -- After a turn that did a step.
    pub runs_more : {pc' ticks : ℕ} → turn ≡ Going pc' ticks → (0 < ticks) × (ticks < left) → length words' ≡ length words
        → Runs context turned marks start.pc start.left values₀ words₀ pc' (left - ticks) values' words'
    runs_more {pc'} {ticks} e f l =
        record {
          run =
              λ d s labels m t.
              let k = r.run d s labels m t in
              let b : left ≤ context.deadline + 1 = omega (arith, r.fewer, d) in
              let g = subst (λ (x : Turn). Did (state_with s context pc left values labels words marks) context.deadline left x values' words') e (h s labels m b (timed_now s labels t)) in
              let clock : context.deadline + 1 - left + ticks ≡ context.deadline + 1 - (left - ticks) =
              omega (arith, b, f) in
              record {
                count = suc k.count;
                skims =
                    skim_on k.count _ _ k.skims g.common
                    ∙ ap (λ (x : State). record { state = x; left = 0 }) (g.steps ∙ rw clock refl);
                took = omega (arith, k.took, f);
                still = λ z. absurd (omega (arith, z));
              };
          fewer = omega (arith, r.fewer);
          some = λ x. omega (arith, f);
          long = l ∙ r.long;
          whole = r.whole;
        }

    -- After one that did none.
    pub stopped_turn : {reason : Reason} {pause : Pause} → pause ≡ record { place = record { pc = pc; left = left }; reason = reason } → turn ≡ Stopping reason
        → Sprinted context start values₀ turned words₀ marks pause values' words'
    stopped_turn {reason} q e =
        rw q (record {
          short = λ x. clash r.whole x;
          ran =
              λ a d s labels m t.
              let k = r.run d s labels m t in
              let x = subst (λ (x : Turn). Did (state_with s context pc left values labels words marks) context.deadline left x values' words') e (h s labels m (omega (arith, r.fewer, d)) (timed_now s labels t)) in
              subst₂
              (λ (v w : List ℕ).
              Ran (state_with s context start.pc start.left values₀ labels words₀ marks)
              (state_with s context pc left v labels w marks) context.deadline start.left left reason)
              (sym x.registers) (sym x.memory)
              (record {
                count = k.count;
                skims = k.skims;
                took = k.took;
                still = k.still;
                some = r.some;
                paused = pauses reason left context.deadline _ x.reason;
              });
        })

-- ---- memory that is lent too short

-- Where the test of the lengths passes, nothing is done.
pub too_short : {context : Context} {start : Place} {values turned words marks : List ℕ} {pause : Pause} {size : ℕ}
    → size ≡ context.size → (ltb (length words) size || ltb (length marks) size) ≡ true → pause ≡ record { place = start; reason = Out }
    → Sprinted context start values turned words marks pause values words
too_short {context} {words = words} {marks = marks} {size = size} i e q =
    record {
      short = λ x. (q, refl, refl);
      ran =
          λ a d s labels m t.
          absurd (none (whole_lengths context.size (lent words marks) a) (or_true (ltb (length words) size) (ltb (length marks) size) e));
    }
  where
    none : (context.size ≤ length words) × (context.size ≤ length marks)
        → (ltb (length words) size ≡ true) ⊎ (ltb (length marks) size ≡ true) → ⊥
    none a (inl x) = let z = ltb-true (length words) size x in absurd (omega (arith, i, a.0))
    none a (inr x) = let z = ltb-true (length marks) size x in absurd (omega (arith, i, a.1))

-- Where it fails, memory is lent whole.
pub lent_whole_lem : {whole : ℕ} (words marks : List ℕ) {size : ℕ} → size ≡ whole
    → (ltb (length words) size || ltb (length marks) size) ≡ false → lent_whole whole (lent words marks) ≡ true
lent_whole_lem {whole} words marks {size} i e =
    let h = (or_iff (ltb (length words) size) (ltb (length marks) size)).0 e in
    let x = ltb-false (length words) size h.0 in
    let y = ltb-false (length marks) size h.1 in
    whole_lent whole (lent words marks) (omega (arith, i, x)) (omega (arith, i, y))
