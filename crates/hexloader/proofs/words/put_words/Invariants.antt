-- `hexloader::words::put_words` meets its contract: before turn k the first k words and labels are made.
-- Assumes nothing.
use Rattle.model.specs.HexLoad.{word_at, word_label}
use Rattle.hexloader.specs.Inner.Places.{numbers_of}
use Rattle.hexloader.proofs.Placing.{Placed}
use Rattle.hexloader.proofs.words.put_words.Given as goal

abbrev pub invariant-loop-k : goal.invariant-loop-k
invariant-loop-k l =
    record {
      words : Placed (word_at (numbers_of l.places)) l.initial.words l.words l.k;
      labels : Placed (word_label l.label (numbers_of l.places)) l.initial.labels l.labels l.k;
    }
