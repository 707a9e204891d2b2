-- `writer::fields_length` meets its contract. The sum is that of a comma and the digits of each number.
-- Assumes nothing.
use Rattle.std.proofs.Common.{◌+◌, ◌∙◌, sym, length, rules, tests, arith}
use Rattle.std.proofs.lemmas.Iterator.{YieldsList-from_slice, YieldsList-from_map}
use Rattle.std.proofs.lemmas.Iterator.Consumers.{sum_by_from_yields_List, fits_by_from_yields_list}
use Rattle.model.specs.Listing.{decimal}
use Rattle.texts.proofs.Fields.{fields_sum, fields_most}
use Rattle.writer.proofs.fields_length.Goals as goal

pub sum-requires-clause-fits : goal.sum-requires-clause-fits
sum-requires-clause-fits c =
    fits_by_from_yields_list _ _ c.map.result _
    (YieldsList-from_map _ (λ n. 1 + length (decimal n)) (YieldsList-from_slice c.args.numbers.now cc) c.map.ensures.closure
    (λ x r q k. search (rules, tests)))
    (omega (arith, fields_sum c.args.numbers.now, fields_most c.args.numbers.now))

pub returns : goal.returns
returns c =
    sum_by_from_yields_List _ _ c.map.result _ c.sum.ensures.ran
    (YieldsList-from_map _ (λ n. 1 + length (decimal n)) (YieldsList-from_slice c.args.numbers.now cc) c.map.ensures.closure
    (λ x r q k. search (rules, tests)))
    ∙ sym (fields_sum c.args.numbers.now)
