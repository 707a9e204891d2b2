-- The lines of a text: its first line and the lines of the rest, judged or written one by one.
-- Assumes nothing.
use Prim.Native.Nat.{ℕ, ◌<◌}
use mathlib.Core.Path.{◌≡◌, refl, ap, ◌∙◌}
use mathlib.Core.List.{List, ◌∷◌}
use native.Mathlib.Omega.{arith}
use lib.ListN.{length, drop}
use Rattle.causes.specs.Tests.{first_refusal}
use Rattle.model.specs.declared.format.Line.{Line}
use Rattle.model.specs.declared.format.Line.TheVariants.{M, G, R, W, Malformed}
use Rattle.model.specs.declared.judging.Last.{Last}
use Rattle.model.specs.Record.{Bank, Machine}
use Rattle.model.specs.Text.{read_line, onwards, lines_in, lines}
use Rattle.model.specs.Load.{line_tests, judge, with_word, fill}
use Rattle.texts.proofs.Text.{sized}
use Rattle.texts.proofs.Pieces.{Pieces, first_of}

-- ---- the first line and the lines of the rest

-- The lines behind a line matter only where it isn't malformed.
onwards_same : (l : Line) (ls ms : List Line) → ((l ≡ Malformed → ⊥) → ls ≡ ms) → onwards l ls ≡ onwards l ms
onwards_same (M a b c d e f) ls ms h =
    ap (λ (r : List Line). M a b c d e f ∷ r) (h (λ x. let z : ◌≡◌ {A = ℕ} 0 1 = cc in omega arith))
onwards_same (G a b c) ls ms h =
    ap (λ (r : List Line). G a b c ∷ r) (h (λ x. let z : ◌≡◌ {A = ℕ} 0 1 = cc in omega arith))
onwards_same (R a b c) ls ms h =
    ap (λ (r : List Line). R a b c ∷ r) (h (λ x. let z : ◌≡◌ {A = ℕ} 0 1 = cc in omega arith))
onwards_same (W a b c) ls ms h =
    ap (λ (r : List Line). W a b c ∷ r) (h (λ x. let z : ◌≡◌ {A = ℕ} 0 1 = cc in omega arith))
onwards_same Malformed ls ms h = refl

-- Lines are read one by one, each from where the last one ended.
line_pieces : Pieces lines_in (λ xs ls. onwards (read_line xs).line ls) (λ xs. (read_line xs).next) (λ xs. (read_line xs).line ≡ Malformed → ⊥)
unfolding lines_in
line_pieces =
    record {
      none = λ xs. refl;
      empty = λ k. refl;
      more = λ k b xs. refl;
      same = λ xs. onwards_same (read_line xs).line;
      moves = λ xs. (sized xs).moves;
    }

-- The lines of a text that isn't empty: its first line and the lines of the rest.
pub lines_first : (xs : List ℕ) → 0 < length xs
    → lines xs ≡ onwards (read_line xs).line (lines (drop (read_line xs).next xs))
unfolding lines
lines_first = first_of line_pieces

-- ---- judged

-- A malformed line is refused whatever is behind it.
judge_onwards : (r : Machine) (last : Last) (n : ℕ) (l : Line) (ls : List Line)
    → judge r last n (onwards l ls) ≡ judge r last n (l ∷ ls)
unfolding judge line_tests first_refusal
judge_onwards r last n (M a b c d e f) ls = refl
judge_onwards r last n (G a b c) ls = refl
judge_onwards r last n (R a b c) ls = refl
judge_onwards r last n (W a b c) ls = refl
judge_onwards r last n Malformed ls = refl

-- A text is judged by its first line, then the lines of the rest.
pub judge_first_lem : (r : Machine) (last : Last) (n : ℕ) (xs : List ℕ) → 0 < length xs
    → judge r last n (lines xs) ≡ judge r last n ((read_line xs).line ∷ lines (drop (read_line xs).next xs))
judge_first_lem r last n xs h =
    ap (judge r last n) (lines_first xs h)
    ∙ judge_onwards r last n (read_line xs).line (lines (drop (read_line xs).next xs))

-- ---- written

-- A line is written, then those behind it.
fill_onwards : (l : Line) (ls : List Line) (m : Bank) → (l ≡ Malformed → ⊥) → fill (onwards l ls) m ≡ fill ls (with_word m l)
unfolding fill
fill_onwards (M a b c d e f) ls m h = refl
fill_onwards (G a b c) ls m h = refl
fill_onwards (R a b c) ls m h = refl
fill_onwards (W a b c) ls m h = refl
fill_onwards Malformed ls m h = absurd (h refl)

-- A text is written by its first line, then the lines of the rest.
pub fill_first : (xs : List ℕ) (m : Bank) → 0 < length xs → ((read_line xs).line ≡ Malformed → ⊥)
    → fill (lines xs) m ≡ fill (lines (drop (read_line xs).next xs)) (with_word m (read_line xs).line)
fill_first xs m h g =
    ap (λ (ls : List Line). fill ls m) (lines_first xs h)
    ∙ fill_onwards (read_line xs).line (lines (drop (read_line xs).next xs)) m g
