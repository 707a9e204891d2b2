-- `loader::load_lines` meets its contract: a refusal, or the words that are kept copied to the lent memory.
-- Assumes nothing.
use mathlib.Core.Path.{refl}
use Rattle.std.proofs.lemmas.Result.{err_from_is_err_and}
use Rattle.loader.proofs.Behind.{judged_blank, line_refused, lines_accepted}
use Rattle.loader.proofs.load_lines.Goals as goal

pub returns-in_err-judged : goal.returns-in_err-judged
returns-in_err-judged c =
    let told = err_from_is_err_and c.from_residual.result c.from_residual.ensures.1 in
    rw (told.1, told.2) (line_refused _ _ _ (judged_blank _ _ _ _ c.in_err-judged.ensures))

pub returns : goal.returns
returns c =
    rw (c.copy_from_slice.ensures.after, c.copy_from_slice-2.ensures.after)
    (lines_accepted _ _ _ (judged_blank _ _ _ _ c.in_ok-judged.ensures) _ _ c.requires.size_le_most_words refl refl)
