-- The lines read one after the other: what holds at each, while it is judged and its word kept.
-- Assumes nothing.
use Prim.Native.Nat.{ℕ, ◌+◌, ◌-◌, ◌≤◌, ◌<◌}
use mathlib.Core.Path.{◌≡◌, refl, sym, ap, ◌∙◌}
use mathlib.Core.Bool.{true}
use mathlib.Core.List.{List, [], ◌∷◌}
use native.Mathlib.Omega.{arith}
use lib.ListN.{length, take, drop, length-drop, drop_of_length-le}
use lib.Seq.{drop-drop}
use Rattle.causes.specs.declared.Cause.{Cause}
use Rattle.causes.specs.Causes.{Outcome, Done, Refused}
use Rattle.causes.specs.Tests.{first_refusal}
use Rattle.causes.proofs.Order.{AllPass, all_pass}
use Rattle.model.specs.declared.format.Line.{Line}
use Rattle.model.specs.declared.format.Line.TheVariants.{M, G, R, W, Malformed}
use Rattle.model.specs.declared.format.Read.{Read}
use Rattle.model.specs.declared.judging.Last.{Last}
use Rattle.model.specs.Record.{Machine, lent}
use Rattle.model.specs.Text.{read_line, lines_in, lines}
use Rattle.model.specs.Load.{line_tests, behind_header, last_of, with_line, refuse, accept, tried, judge, with_word, fill}
use Rattle.model.proofs.Load.{line_size}
use Rattle.texts.specs.Inner.Storable.{is_storable}
use Rattle.texts.proofs.Text.{part, sized}
use Rattle.texts.proofs.Lines.{judge_first_lem, fill_first}
use Rattle.texts.proofs.Storable.{line_storable, line_good}
use Rattle.texts.proofs.Kept.{storable_wider}
use Rattle.loader.specs.Inner.Judging.{takes}

-- ---- a line that was read

-- The line read at `at` is the first of the rest of the text.
pub record At (text : List ℕ) (at : ℕ) (r : Read) : Type 0 where
  pub more : 0 < length (drop at text)
  pub reads : read_line (drop at text) ≡ r
  pub within : at + r.next ≤ length text
  pub behind : drop r.next (drop at text) ≡ drop (at + r.next) text

-- The reader is lent the part of the text from `at` on.
pub read_at : (text : List ℕ) (at : ℕ) (r : Read) → at < length text
    → r ≡ read_line (take (length text - at) (drop at text)) → At text at r
read_at text at r h e =
    let q : read_line (drop at text) ≡ r = ap read_line (sym (part at text)) ∙ sym e in
    let w : r.next ≤ length (drop at text) = rw q at (sized (drop at text)).within in
    record {
      more = omega (arith, length-drop at text);
      reads = q;
      within = omega (arith, length-drop at text);
      behind = drop-drop r.next at text;
    }

-- A line that isn't malformed takes a byte at least.
pub moves : (text : List ℕ) (at : ℕ) (r : Read) → At text at r → (r.line ≡ Malformed → ⊥) → 1 ≤ r.next
moves text at r a m = rw a.reads at (sized (drop at text)).moves m

-- Behind the text there are no lines.
pub no_lines : (text : List ℕ) (at : ℕ) → length text ≤ at → lines (drop at text) ≡ []
unfolding lines lines_in
no_lines text at h = rw (drop_of_length-le text h)

-- ---- the lines judged, their words kept

-- The lines from `at` on, the first of which is line n, are still to be judged.
pub record Judged (text : List ℕ) (start : ℕ) (r₀ r : Machine) (last : Last) (at n : ℕ) : Type 0 where
  pub counted : n ≤ at + 2
  pub size : r.fixed.size ≡ r₀.fixed.size
  pub same : judge r last n (lines (drop at text)) ≡ judge r₀ behind_header 2 (lines (drop start text))

-- Their words are still to be kept in w and l, which held w₀ and l₀.
pub record Kept (text : List ℕ) (start : ℕ) (w₀ l₀ w l : List ℕ) (at : ℕ) : Type 0 where
  pub words : length w ≡ length w₀
  pub labels : length l ≡ length l₀
  pub same : fill (lines (drop at text)) (lent w l) ≡ fill (lines (drop start text)) (lent w₀ l₀)

-- The verdict on the lines goes by the outcome of the first of them.
tried_here : {text : List ℕ} {start : ℕ} {r₀ r : Machine} {last : Last} {at n : ℕ} {x : Read} {o : Outcome} → At text at x
    → o ≡ first_refusal (line_tests r.fixed.size r.fixed.count last x.line) → Judged text start r₀ r last at n
    → tried o n (judge (with_line r x.line) (last_of x.line) (n + 1) (lines (drop (at + x.next) text)))
    ≡ judge r₀ behind_header 2 (lines (drop start text))
unfolding judge
tried_here {text} {r = r} {last = last} {at = at} {n = n} {x = x} a h j =
    ap (λ (z : Outcome). tried z n (judge (with_line r x.line) (last_of x.line) (n + 1) (lines (drop (at + x.next) text)))) h
    ∙ ap (λ (ls : List ℕ). judge r last n (x.line ∷ lines ls)) (sym a.behind)
    ∙ ap (λ (q : Read). judge r last n (q.line ∷ lines (drop q.next (drop at text)))) (sym a.reads)
    ∙ sym (judge_first_lem r last n (drop at text) a.more)
    ∙ j.same

-- The line is refused.
pub judged_refused : {text : List ℕ} {start : ℕ} {r₀ r : Machine} {last : Last} {at n : ℕ} {x : Read} (c : Cause)
    → At text at x → Refused c ≡ first_refusal (line_tests r.fixed.size r.fixed.count last x.line)
    → Judged text start r₀ r last at n → refuse c n ≡ judge r₀ behind_header 2 (lines (drop start text))
judged_refused c a h j = tried_here a h j

-- A line that passes its tests can be taken.
line_takes : (size count : ℕ) (last : Last) (l : Line) → AllPass (line_tests size count last l) → takes count l ≡ true
unfolding line_tests
line_takes size count last (M a b c d e f) h = refl
line_takes size count last (G pc p t) h = h.1.0
line_takes size count last (R k l v) h = h.1.0
line_takes size count last (W k l v) h = refl
line_takes size count last Malformed h = refl

-- The line read at `at` is accepted.
pub record Accepted (text : List ℕ) (at : ℕ) (r : Machine) (last : Last) (x : Read) : Type 0 where
  pub here : At text at x
  pub passes : Done ≡ first_refusal (line_tests r.fixed.size r.fixed.count last x.line)

module _ {text : List ℕ} {at : ℕ} {r : Machine} {last : Last} {x : Read} (a : Accepted text at r last x) where
  -- So it isn't malformed.
  accepted_good : x.line ≡ Malformed → ⊥
  accepted_good = line_good r.fixed.size r.fixed.count last x.line (sym a.passes)

  -- It takes a byte at least.
  pub accepted_moves : 1 ≤ x.next
  accepted_moves = moves text at x a.here accepted_good

  -- The record can take it.
  pub accepted_taken : takes r.fixed.count x.line ≡ true
  accepted_taken = line_takes r.fixed.size r.fixed.count last x.line (all_pass _ (sym a.passes))

  -- Its word has a place where there is room for the machine's words.
  pub accepted_stored : (n : ℕ) → r.fixed.size ≤ n → is_storable n x.line ≡ true
  accepted_stored n h =
      storable_wider r.fixed.size n x.line h
      (line_storable r.fixed.size r.fixed.count last x.line (all_pass _ (sym a.passes)))

  -- With the record that has taken it, the lines behind it are to be judged.
  pub judged_more : {start : ℕ} {r₀ : Machine} {n : ℕ} (r' : Machine) (last' : Last) → Judged text start r₀ r last at n
      → r' ≡ with_line r x.line → last' ≡ last_of x.line → Judged text start r₀ r' last' (at + x.next) (n + 1)
  judged_more r' last' j p q =
      record {
        counted = omega (arith, j.counted, accepted_moves);
        size = ap (λ (z : Machine). z.fixed.size) p ∙ line_size r x.line ∙ j.size;
        same = rw (p, q) (tried_here a.here a.passes j);
      }

  -- With its word kept, those of the lines behind it are to be kept.
  pub kept_more : {start : ℕ} {w₀ l₀ w l : List ℕ} (w' l' : List ℕ) → Kept text start w₀ l₀ w l at
      → lent w' l' ≡ with_word (lent w l) x.line → length w' ≡ length w → length l' ≡ length l
      → Kept text start w₀ l₀ w' l' (at + x.next)
  kept_more {w = w} {l = l} w' l' k e p q =
      record {
        words = p ∙ k.words;
        labels = q ∙ k.labels;
        same =
            ap (fill (lines (drop (at + x.next) text))) e
            ∙ ap (λ (xs : List ℕ). fill (lines xs) (with_word (lent w l) x.line)) (sym a.here.behind)
            ∙ ap (λ (z : Read). fill (lines (drop z.next (drop at text))) (with_word (lent w l) z.line)) (sym a.here.reads)
            ∙ sym
            (fill_first (drop at text) (lent w l) a.here.more
            (λ m. accepted_good (ap (λ (z : Read). z.line) (sym a.here.reads) ∙ m)))
            ∙ k.same;
      }

-- All lines are accepted.
pub judged_end : (text : List ℕ) (start : ℕ) (r₀ r : Machine) (last : Last) (at n : ℕ) → Judged text start r₀ r last at n
    → length text ≤ at → accept r ≡ judge r₀ behind_header 2 (lines (drop start text))
unfolding judge
judged_end text start r₀ r last at n j h = rw (no_lines text at h) at j.same

-- Their words are kept.
pub kept_end : (text : List ℕ) (start : ℕ) (w₀ l₀ w l : List ℕ) (at : ℕ) → Kept text start w₀ l₀ w l at → length text ≤ at
    → lent w l ≡ fill (lines (drop start text)) (lent w₀ l₀)
unfolding fill
kept_end text start w₀ l₀ w l at k h = rw (no_lines text at h) at k.same
