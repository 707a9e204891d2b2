-- `hexloader::words::label_at` meets its contract: the word has a byte in one of its four places, or in none.
-- Assumes nothing.
use Prim.Native.Nat.{◌+◌, ◌-◌, ◌*◌}
use mathlib.Core.Path.{◌≡◌, sym, ◌∙◌}
use native.Mathlib.Omega.{arith}
use lib.ListN.{take, drop}
use Rattle.std.proofs.Common.{rules, tests, is_some}
use Rattle.std.proofs.lemmas.Iterator.{YieldsList-from_slice}
use Rattle.std.proofs.lemmas.Iterator.Search.{any_from_yields_List}
use Rattle.model.specs.HexLoad.{has_byte, word_label}
use Rattle.labels.proofs.Constants.{lowest_number}
use Rattle.hexloader.specs.Inner.Places.{numbers_of}
use Rattle.hexloader.proofs.Places.{word_given}
use Rattle.hexloader.proofs.words.label_at.Goals as goal
use Rattle.hexloader.proofs.words.label_at.Goals.{After-any-given}

-- Whether one of the four has a byte.
told : (c : After-any-given) → c.any-given.result ≡ has_byte (numbers_of c.args.places.now) c.args.k
told c =
    let n : 4 * c.args.k + 4 - 4 * c.args.k ≡ 4 = omega arith in
    any_from_yields_List is_some _ _ c.any-given.result c.any-given.ensures.ran (YieldsList-from_slice (take 4 (drop (4 * c.args.k) c.args.places.now)) (c.iter.ensures.rest ∙ rw n)) (λ x b q k. search (rules, tests))
    ∙ word_given c.args.places.now c.args.k c.requires

pub returns-then-given : goal.returns-then-given
unfolding word_label
returns-then-given c = rw (sym (told (goal.at.returns-then-given c).After-any-given) ∙ c.if-given.true)

pub returns-else-given : goal.returns-else-given
unfolding word_label
returns-else-given c = rw (sym (told (goal.at.returns-else-given c).After-any-given) ∙ c.if-given.false, lowest_number)
