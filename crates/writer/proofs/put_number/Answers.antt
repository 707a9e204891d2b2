-- `writer::put_number` meets its contract. The digits of what is left and those that stand make the number.
-- Assumes nothing.
use Rattle.std.proofs.Common.{◌+◌, ◌<◌, arith}
use Rattle.texts.proofs.Decimal.{least_digits}
use Rattle.writer.proofs.Spelled.{spell_none, spell_more, spell_first, spell_last}
use Rattle.writer.proofs.put_number.Goals as goal

pub loop-at-init : goal.loop-at-init
loop-at-init c = spell_none _ _ _ c.digit_count-count.ensures (omega (arith, c.digit_count-count.ensures))

pub loop-at-preserved : goal.loop-at-preserved
loop-at-preserved c = spell_more _ _ _ _ _ c.loop-at.invariant (omega arith) (omega arith)

pub overflow_cast-out-2 : goal.overflow_cast-out-2
overflow_cast-out-2 c = let d = spell_first _ _ _ _ _ c.loop-at.invariant (omega arith) (omega arith) in omega (arith, d)

pub overflow_add-out-2 : goal.overflow_add-out-2
overflow_add-out-2 c = let d = spell_first _ _ _ _ _ c.loop-at.invariant (omega arith) (omega arith) in omega (arith, d)

pub bounds-out-0 : goal.bounds-out-0
bounds-out-0 c =
    let s = c.loop-at.invariant in
    omega (arith, s.place, s.room, least_digits c.loop-at.rest)

pub returns : goal.returns
returns c =
    let s = c.loop-at.invariant in
    record {
      fits = c.requires;
      count = c.digit_count-count.ensures;
      output = spell_last _ _ _ _ _ s (spell_first _ _ _ _ _ s (omega arith) (omega arith));
    }
