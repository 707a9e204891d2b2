-- `hexloader::words::put_words` meets its contract: before turn k the first k words and labels are made.
-- Assumes nothing.
use native.Mathlib.Omega.{arith}
use Rattle.hexloader.proofs.Placing.{placed_none, placed_more}
use Rattle.hexloader.proofs.words.put_words.Goals as goal

pub loop-k-init : goal.loop-k-init
loop-k-init c = record { words = placed_none _ _; labels = placed_none _ _ }

pub loop-k-preserved : goal.loop-k-preserved
loop-k-preserved c =
    record {
      words = placed_more _ c.loop-k.invariant.words c.word_at.ensures (omega (arith, c.loop-k-test.true, c.requires.size_in_bounds.0));
      labels = placed_more _ c.loop-k.invariant.labels c.label_at.ensures (omega (arith, c.loop-k-test.true, c.requires.size_in_bounds.1));
    }
