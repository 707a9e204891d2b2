-- `reader::leading_digits` meets its contract: the bytes that pass the test in a row.
-- Assumes nothing.
use Rattle.std.proofs.Common.{rules, tests}
use Rattle.std.proofs.lemmas.Iterator.{YieldsList-from_slice}
use Rattle.std.proofs.lemmas.Iterator.Consumers.{count_from_yields_List}
use Rattle.std.proofs.lemmas.Iterator.Search.{YieldsList-from_take_while}
use Rattle.model.specs.Text.{is_digit}
use Rattle.reader.proofs.Digits.{digits_counted}
use Rattle.reader.proofs.leading_digits.Goals as goal

pub returns : goal.returns
unfolding is_digit
returns c =
    digits_counted _ _
    (count_from_yields_List c.take_while.result _ c.count-count.ensures.ran
    (YieldsList-from_take_while _ is_digit (YieldsList-from_slice c.args.text.now cc) c.take_while.ensures.closure
    c.take_while.ensures.done (λ x b q k. search (rules, tests))))
