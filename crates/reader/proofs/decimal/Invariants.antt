-- `reader::decimal` meets its contract: the digits passed write `value`, and those left go on from there.
-- Assumes nothing.
use Rattle.std.proofs.Common.{◌≡◌, ◌^◌, ◌<◌, drop}
use Rattle.model.specs.Text.{decimal_from}
use Rattle.reader.proofs.decimal.Given as goal

abbrev pub invariant-loop-digit : goal.invariant-loop-digit
invariant-loop-digit l = record {
  valued : decimal_from 0 l.digits ≡ decimal_from l.value (drop l.digit-index l.digits);
  small : l.value < 10 ^ l.digit-index;
}
