-- The answer on the lines behind an M line, from their verdict and the words that are kept.
-- Assumes nothing.
use Prim.Native.Nat.{ℕ, ◌≤◌}
use mathlib.Core.Path.{◌≡◌, refl, sym, ap, ◌∙◌}
use mathlib.Core.List.{List, ◌++◌}
use lib.ListN.{take, drop, replicate}
use Rattle.std.specs.Prelude.{Result, Ok, Err}
use Rattle.std.proofs.lemmas.Result.{IfOk-weaker}
use Rattle.labels.proofs.Constants.{lowest_number}
use Rattle.causes.specs.declared.Cause.{Cause}
use Rattle.model.specs.declared.format.Line.{Line}
use Rattle.model.specs.Numbers.{most_words}
use Rattle.model.specs.Record as records
use Rattle.model.specs.Record.{Bank, lent}
use Rattle.model.specs.Load.{blank, behind_header, refuse, accept, judge, fill, cleared, settle}
use Rattle.model.proofs.Load.{judge_size}
use Rattle.texts.proofs.Storable.{accepted_storable}
use Rattle.texts.proofs.Kept.{over, kept_over}
use Rattle.machine_record.specs.Struct.{record_of}
use Rattle.machine_record.specs.declared.Machine.{Machine}
use Rattle.header.specs.declared.Refusal.{Refusal}
use Rattle.header.specs.Loading.{loading_of}
use Rattle.header.proofs.Heading.{headed_accepts, headed_refuses}
use Rattle.loader.specs.Inner.Judging.{LinesJudged, load_lines}

-- A refusal is the answer on lines that are refused so.
pub refused_lines : (c : Cause) (n : ℕ) (header : records.Machine) (ls : List Line) (before after : Bank)
    → refuse c n ≡ judge header behind_header 2 ls
    → LinesJudged header ls before (Err (record { cause = c; line = n })) after
refused_lines c n header ls before after e = record { answer = λ w l. rw (← e); kept = tt }

-- The words are kept in arrays that were blank.
pub judged_blank : (header : records.Machine) (ls : List Line) (j : Result Machine (Refusal ℕ)) (kept : Bank)
    → LinesJudged header ls (lent (replicate most_words 0) (replicate most_words 240)) j kept
    → LinesJudged header ls (blank most_words) j kept
judged_blank header ls j kept a =
    record {
      answer = a.answer;
      kept =
          IfOk-weaker j _ _
          (λ q e. e ∙ ap (λ (n : ℕ). fill ls (lent (replicate most_words 0) (replicate most_words n))) (sym lowest_number))
          a.kept;
    }

module _ {header : records.Machine} {ls : List Line} {w' l' : List ℕ} (w l : List ℕ) where
  -- A line is refused.
  pub line_refused : (r : Refusal ℕ) → LinesJudged header ls (blank most_words) (Err r) (lent w' l')
      → loading_of (Err r) w l ≡ load_lines header ls (lent w l)
  line_refused r a =
      headed_refuses (judge header behind_header 2 ls) (lent w l) (loading_of (Err r) w l) (a.answer w l) refl
      (λ v. settle v ls (lent w l)) (λ c n. refl)

  module _ (q : Machine) (a : LinesJudged header ls (blank most_words) (Ok q) (lent w' l')) where
    -- All lines are accepted.
    accepts : judge header behind_header 2 ls ≡ accept (record_of q)
    accepts = headed_accepts (judge header behind_header 2 ls) (lent w l) (loading_of (Ok q) w l) (a.answer w l) refl

    -- The kept words below the size, over the lent memory, are the words of the lines.
    filled : header.fixed.size ≤ most_words
        → over header.fixed.size (lent w' l') (lent w l) ≡ fill ls (cleared header.fixed.size (lent w l))
    filled e =
        let size = header.fixed.size in
        ap (λ (b : Bank). over size b (lent w l)) a.kept
        ∙ kept_over size most_words ls (lent w l) e (accepted_storable header behind_header 2 ls (record_of q) accepts)

    -- They are copied.
    pub lines_accepted : (w'' l'' : List ℕ) → header.fixed.size ≤ most_words
        → w'' ≡ take header.fixed.size w' ++ drop header.fixed.size w
        → l'' ≡ take header.fixed.size l' ++ drop header.fixed.size l
        → loading_of (Ok q) w'' l'' ≡ load_lines header ls (lent w l)
    lines_accepted w'' l'' e p s =
        let same = judge_size header behind_header 2 ls (record_of q) accepts in
        rw (p, s, filled e) (rw (accepts, same))
