-- An accepted line may be written, and so may all lines of an accepted text.
-- Assumes nothing.
use Prim.Native.Nat.{ℕ, ◌+◌}
use mathlib.Core.Path.{◌≡◌, refl, ap, ◌∙◌}
use mathlib.Core.Bool.{true}
use mathlib.Core.List.{List, [], ◌∷◌}
use Rattle.causes.specs.Causes.{Done}
use Rattle.causes.specs.Tests.{first_refusal}
use Rattle.causes.proofs.Order.{AllPass, all_pass}
use Rattle.model.specs.declared.format.Line.{Line}
use Rattle.model.specs.declared.format.Line.TheVariants.{M, G, R, W, Malformed}
use Rattle.model.specs.declared.judging.Last.{Last}
use Rattle.model.specs.Record.{Bank, Machine}
use Rattle.model.specs.Load.{line_tests, behind_header, last_of, with_line, accept, judge, lines_behind, judge_text}
use Rattle.model.proofs.Truth.{and_iff, clash}
use Rattle.model.proofs.Load.{judge_accept, line_size, judge_size, text_accepts}
use Rattle.texts.specs.Inner.Storable.{is_storable, storable}

module _ (size count : ℕ) (last : Last) where
  -- Its word may be written.
  pub line_storable : (l : Line) → AllPass (line_tests size count last l) → is_storable size l ≡ true
  unfolding line_tests
  line_storable (M a b c d e f) h = refl
  line_storable (G pc p t) h = refl
  line_storable (R k l v) h = refl
  line_storable (W k l v) h = h.1.0
  line_storable Malformed h = h.0

  -- And it isn't malformed.
  pub line_good : (l : Line) → first_refusal (line_tests size count last l) ≡ Done → l ≡ Malformed → ⊥
  line_good l h m =
      let s : is_storable size l ≡ true = line_storable l (all_pass _ h) in clash (rw m at s) refl

-- So may the words of an accepted text.
pub accepted_storable : (r : Machine) (last : Last) (n : ℕ) (ls : List Line) (r' : Machine) → judge r last n ls ≡ accept r'
    → storable r.fixed.size ls ≡ true
unfolding storable
accepted_storable r last n [] r' e = refl
accepted_storable r last n (l ∷ ls) r' e =
    let a = judge_accept r last n l ls r' e in
    (and_iff _ _).1 (
      line_storable r.fixed.size r.fixed.count last l a.0,
      rw (line_size r l) at (accepted_storable (with_line r l) (last_of l) (n + 1) ls r' a.1),
    )

pub text_storable : (text : List ℕ) (m : Bank) (r : Machine) → judge_text text m ≡ accept r
    → storable r.fixed.size (lines_behind text) ≡ true
text_storable text m r e =
    let a = text_accepts text m r e in
    ap (λ (n : ℕ). storable n (lines_behind text)) (judge_size a.first behind_header 2 (lines_behind text) r a.behind)
    ∙ accepted_storable a.first behind_header 2 (lines_behind text) r a.behind
