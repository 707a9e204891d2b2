-- `hexloader::words::word_at` meets its contract.
-- Assumes nothing.
use native.Mathlib.Omega.{arith}
use Rattle.model.specs.HexLoad.{word_at}
use Rattle.hexloader.proofs.words.word_at.Goals as goal

pub returns : goal.returns
unfolding word_at
returns c =
    rw (← c.byte_in.ensures, ← c.byte_in-2.ensures, ← c.byte_in-3.ensures, ← c.byte_in-4.ensures) (omega arith)
