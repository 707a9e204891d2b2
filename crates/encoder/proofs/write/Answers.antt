-- `encoder::write` meets its contract. A buffer as long as the span takes all of the record's words.
-- Assumes nothing.
use native.Mathlib.Omega.{arith}
use borrow.Author.Rules.{rules}
use mathlib.Core.Path.{◌≡◌}
use lib.ListN.{length, length-take}
use Rattle.encoder.specs.Places.{span}
use Rattle.encoder.proofs.write.Goals as goal

pub copy_from_slice-requires : goal.copy_from_slice-requires
copy_from_slice-requires c =
    let all : length c.words_of.result ≡ span = search rules in
    omega (arith, length-take span c.args.buffer.now)
