-- `hexreader::sum_bytes` meets its contract: `count` bytes are counted, and `sum` is their sum modulo 256.
-- Assumes nothing.
use Prim.Native.Nat.{◌-◌}
use lib.ListN.{length}
use Rattle.hexreader.proofs.Laws.{Adding}
use Rattle.hexreader.proofs.sum_bytes.Given as goal

abbrev pub invariant-loop-byte : goal.invariant-loop-byte
invariant-loop-byte l = Adding l.text l.count l.sum

abbrev pub decreases-loop-byte : goal.decreases-loop-byte
decreases-loop-byte l = length l.text - l.count
