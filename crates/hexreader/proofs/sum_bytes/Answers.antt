-- `hexreader::sum_bytes` meets its contract: `count` bytes are counted, and `sum` is their sum modulo 256.
-- Assumes nothing.
use native.Mathlib.Omega.{arith}
use Rattle.hexreader.proofs.Laws.{adding_within, adding_more, adding_end}
use Rattle.hexreader.proofs.sum_bytes.Goals as goal

pub loop-byte-smaller : goal.loop-byte-smaller
loop-byte-smaller c = omega (arith, adding_within c.loop-byte.invariant c.in-Some.byte c.in-Some.ensures)

pub loop-byte-preserved : goal.loop-byte-preserved
loop-byte-preserved c = adding_more c.loop-byte.invariant c.in-Some.byte c.in-Some.ensures

pub returns : goal.returns
returns c = adding_end c.loop-byte.invariant c.in_default.ensures
