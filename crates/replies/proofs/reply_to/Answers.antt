-- The text is what was read, and what was written is what the call left.
-- Assumes nothing.
use Rattle.std.proofs.Common.{rules, refl, take}
use Rattle.std.proofs.lemmas.Result.{on_ok_weaker}
use Rattle.replies.proofs.reply_to.Goals as goal

pub returns : goal.returns
returns g c =
    on_ok_weaker c.write_output.result
    (λ wrote. (
      take c.in_ok-length.length c.read_input.new.buf,
      c.call-count.result,
      record { bytes = search rules; whole = search rules },
      record { shown = _; shows = refl; given = _; gives = refl; back = _; met = c.call-count.ensures; leaves = refl },
      search rules,
    ))
    c.write_output.ensures
