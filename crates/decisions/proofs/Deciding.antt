-- Laws about what is decided of an op: one that carries out a change, one that decides by itself, and any other.
-- Assumes nothing.
use Prim.Native.Nat.{ℕ, ◌≤◌}
use mathlib.Core.Path.{◌≡◌, sym, ap, ◌∙◌}
use mathlib.Core.Logic.{⊎_elim}
use mathlib.Core.Bool.{Bool, true, false, ◌&&◌, cond}
use mathlib.Core.List.{List}
use mathlib.Core.Option.{some}
use Rattle.model.specs.declared.Fixed.{Fixed}
use Rattle.model.specs.declared.Registers.{Registers}
use Rattle.model.specs.Registers.{state_over}
use Rattle.model.specs.Numbers.{unknown_op, by_failure}
use Rattle.model.specs.Record.{State, in_upcall}
use Rattle.model.specs.Word.{Op, op_field, decode}
use Rattle.model.specs.Ops.{Row, table, write, nothing}
use Rattle.model.specs.Step.{fetched, known, fault, attempt, passed, close, carry, in_time, plan}
use Rattle.model.proofs.Truth.{either}
use Rattle.parts.specs.declared.live.Live.{Live}
use Rattle.parts.specs.Live.{control_of}
use Rattle.parts.specs.declared.stages.Reason.TheVariants.{Rest}
use Rattle.parts.specs.declared.stages.Change.{Change}
use Rattle.parts.specs.declared.stages.Decision.{Decision}
use Rattle.parts.specs.Stages.{change_of, is_common_op, fetches_common, plan_at}
use Rattle.changes.specs.Changes.{change_in, changed_by, changed, FitsIn}
use Rattle.decisions.specs.Inner.Deciding.{Decides, InTime}
use Rattle.decisions.proofs.Unknown.{NoneFrom, unknown}

-- A row that carries out a change in so many ticks, and whose failed check closes nothing.
abbrev pub Plain : Row → ℕ → Type 0
Plain r ticks = (r.strict ≡ false) × (r.ticks ≡ ticks) × (passed ticks r.effect ≡ carry ticks (change_in r.effect))

-- What is attempted by such a row.
attempt_plain : (s : State) (r : Row) (ticks : ℕ) (change : Change) → Plain r ticks → change_of change ≡ changed_by r
    → attempt s r ≡ carry ticks (change_of change)
unfolding attempt
attempt_plain s r ticks change p e = go r.check e
  where
    go : (b : Bool) → change_of change ≡ cond b (change_in r.effect) (write nothing)
        → cond b (passed r.ticks r.effect) (cond (r.strict && in_upcall s.control) (close by_failure) (carry r.ticks (write nothing)))
        ≡ carry ticks (change_of change)
    go true q = rw (p.1, p.2, q)
    go false q = rw (p.0, p.1, q)

module _ (w : ℕ) {n : ℕ} (q : n ≡ op_field w) where
  -- The plan at one of these ops.
  plan_op : (s : State) {k : ℕ} {op : Op} → n ≡ k → decode k ≡ some op → is_common_op op ≡ false → plan s (fetched w op) ≡ plan_at w s
  plan_op s e d f = rw (ap decode (sym q ∙ e) ∙ d, f)

  -- The plan where it is none of them: a common op is taken for an unknown one.
  plan_none : (s : State) → NoneFrom 15 8 n → fault s unknown_op ≡ plan_at w s
  plan_none s h =
      ⊎_elim (λ (e : fetches_common (known w (decode (op_field w))) ≡ true). rw e)
      (λ (e : fetches_common (known w (decode (op_field w))) ≡ false).
      rw (e, ap decode (sym q) ∙ unknown w n (rw q e) h))
      (either (fetches_common (known w (decode (op_field w)))))

  module _ {fixed : Fixed} {live : Live} {registers : Registers} {r : Decision} where
    -- An op that carries out a change, where its check passes.
    pub op_changes : {k ticks : ℕ} {op : Op} {change : Change} → n ≡ k → decode k ≡ some op → is_common_op op ≡ false
        → ((words marks : List ℕ) → change_of change ≡ changed op w (state_over fixed (control_of live) registers words marks))
        → FitsIn ticks live change → InTime live ticks change r → 1 ≤ ticks
        → ((s : State) → Plain (table s w op) ticks) → Decides (Rest w) (plan_at w) fixed live registers r
    op_changes {ticks = ticks} {op = op} {change = change} e d f a g t m row =
        record {
          is =
              λ words marks.
              let s = state_over fixed (control_of live) registers words marks in
              t.is fixed registers words marks ∙ ap (in_time s) (sym (attempt_plain s (table s w op) ticks change (row s) (a words marks)))
              ∙ plan_op s e d f;
          ready = t.ready m;
          suits = λ p. t.suits (g p);
        }

    -- An op that decides by itself.
    pub op_decides : {k : ℕ} {op : Op} → n ≡ k → decode k ≡ some op → is_common_op op ≡ false
        → Decides (Rest w) (λ s. plan s (fetched w op)) fixed live registers r
        → Decides (Rest w) (plan_at w) fixed live registers r
    op_decides e d f a = record { is = λ words marks. a.is words marks ∙ plan_op _ e d f; ready = a.ready; suits = a.suits }

    -- Any other op.
    pub op_unknown : NoneFrom 15 8 n → Decides (Rest w) (λ s. fault s unknown_op) fixed live registers r
        → Decides (Rest w) (plan_at w) fixed live registers r
    op_unknown h a = record { is = λ words marks. a.is words marks ∙ plan_none _ h; ready = a.ready; suits = a.suits }
