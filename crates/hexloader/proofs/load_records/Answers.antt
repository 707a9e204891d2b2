-- `hexloader::load_records` meets its contract: no byte is given to any place yet; a refusal, or words and labels made of the
-- bytes.
-- Assumes nothing.
use mathlib.Core.Path.{ap, ◌∙◌}
use native.Mathlib.Omega.{arith}
use Rattle.model.specs.Hex.{records}
use Rattle.model.specs.HexLoad.{judge_records, no_bytes}
use Rattle.machine_record.specs.Struct.{record_of}
use Rattle.hexloader.proofs.Judging.{handed_on}
use Rattle.hexloader.proofs.Answer.{record_refused, records_accepted, some_places, some_length}
use Rattle.hexloader.proofs.load_records.Goals as goal

pub returns-in_err-judge_records : goal.returns-in_err-judge_records
returns-in_err-judge_records c =
    let size = c.args.machine.fixed.size in
    rw (handed_on c.from_residual.result _ c.from_residual.ensures.1)
    (record_refused (record_of c.args.machine) c.args.hex.now (no_bytes size) c.args.label c.args.words.now c.args.labels.now _ _
    (c.in_err-judge_records.ensures ∙ ap (judge_records 1 (records c.args.hex.now)) (some_places size c.requires.size_le_most_words)))

pub put_words-requires-clause-bytes_in_bounds : goal.put_words-requires-clause-bytes_in_bounds
put_words-requires-clause-bytes_in_bounds c =
    omega (arith, c.judge_records.auto.places, some_length c.args.machine.fixed.size c.requires.size_le_most_words)

pub returns : goal.returns
returns c =
    let size = c.args.machine.fixed.size in
    records_accepted (record_of c.args.machine) c.args.hex.now (no_bytes size) c.args.label c.args.words.now c.args.labels.now _ _ _
    (c.in_ok-judge_records.ensures ∙ ap (judge_records 1 (records c.args.hex.now)) (some_places size c.requires.size_le_most_words))
    c.put_words.ensures.words c.put_words.ensures.labels
