-- `encoder::encode::words_of` meets its contract. The parts' words stand one behind another, and fill the array.
-- Assumes nothing.
use borrow.Author.Rules.{rules}
use mathlib.Core.Path.{◌≡◌, ◌∙◌}
use mathlib.Core.List.{append-nil}
use lib.ListN.{length, replicate}
use Rattle.machine_record.specs.Struct.{record_of}
use Rattle.encoder.specs.Places.{span}
use Rattle.encoder.specs.Layout.{words_of}
use Rattle.encoder.proofs.Laws.{put_parts, length_words}
use Rattle.encoder.proofs.Lists.{sets_start}
use Rattle.encoder.proofs.encode.words_of.Goals as goal

pub returns : goal.returns
returns c =
    let m = c.args.machine in
    let gates8 : length m.fixed.gates ≡ 8 = search rules in
    let values16 : length m.registers.values ≡ 16 = search rules in
    let labels16 : length m.registers.labels ≡ 16 = search rules in
    let r = record_of m in
    put_parts (replicate span 0) r gates8 c.put_fixed.ensures c.put_control.ensures c.put_registers.ensures
    ∙ sets_start (replicate span 0) (words_of r) span (length_words r gates8 values16 labels16) (search rules)
    ∙ append-nil (words_of r)
