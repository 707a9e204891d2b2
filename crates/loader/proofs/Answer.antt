-- The answer of load, from those on the first line and on the lines behind it.
-- Assumes nothing.
use Prim.Native.Nat.{ℕ}
use mathlib.Core.Path.{◌≡◌, refl, sym, ap, ◌∙◌}
use mathlib.Core.List.{List}
use lib.ListN.{length, drop}
use Rattle.causes.specs.declared.Cause.{Cause}
use Rattle.causes.specs.Causes.{Done, Refused, is_done}
use Rattle.model.specs.declared.format.Read.{Read}
use Rattle.model.specs.Record.{Bank, Machine}
use Rattle.model.specs.Text.{read_line, lines}
use Rattle.model.specs.Load.{Verdict, accept, ◌and_then◌, behind_header, judge_header, judge, lines_behind, judge_text, Loading, settle, load}
use Rattle.header.specs.Loading.{headed}
use Rattle.header.proofs.Heading.{headed_accepts, headed_refuses}
use Rattle.loader.specs.Inner.Judging.{load_lines}

-- The first line was read, and this is the answer on it.
pub record Begun (text : List ℕ) (m : Bank) (x : Read) (a : Loading) : Type 0 where
  pub reads : x ≡ read_line text
  pub answers : a ≡ headed (judge_header (length text) x.line m) m

module _ {text : List ℕ} {m : Bank} {x : Read} {a : Loading} (b : Begun text m x a) where
  answer_first : a ≡ headed (judge_header (length text) (read_line text).line m) m
  answer_first = b.answers ∙ ap (λ (z : Read). headed (judge_header (length text) z.line m) m) b.reads

  -- A refusal of the first line is that of the text.
  pub first_refused : (c : Cause) → a.outcome ≡ Refused c → a ≡ load text m
  unfolding load judge_text
  first_refused c z =
      headed_refuses (judge_header (length text) (read_line text).line m) m a answer_first (ap is_done z)
      (λ v. settle (v and_then (λ r. judge r behind_header 2 (lines_behind text))) (lines_behind text) m)
      (λ c n. refl)

  module _ (z : a.outcome ≡ Done) where
    -- It is accepted.
    pub first_accepted : judge_header (length text) (read_line text).line m ≡ accept a.machine
    first_accepted = headed_accepts _ m a answer_first z

    -- The answer on the lines behind it is that on the text.
    pub behind_loaded : (r : Loading) → r ≡ load_lines a.machine (lines (drop x.next text)) m → r ≡ load text m
    unfolding load judge_text
    behind_loaded r e =
        e
        ∙ ap (λ (y : Read). load_lines a.machine (lines (drop y.next text)) m) b.reads
        ∙ ap (λ (v : Verdict Machine). settle (v and_then (λ q. judge q behind_header 2 (lines_behind text))) (lines_behind text) m)
        (sym first_accepted)
