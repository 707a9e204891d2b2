-- `encoder::encode::put_registers` meets its contract.
-- Assumes nothing.
use borrow.Author.Rules.{rules}
use native.Mathlib.Omega.{arith}
use mathlib.Core.Path.{◌≡◌, refl, ◌∙◌}
use lib.ListN.{length}
use lib.Seq.{sets, length-sets}
use Rattle.encoder.proofs.Lists.{copied, mapped_same, sets_then}
use Rattle.encoder.proofs.encode.put_registers.Goals as goal

pub returns : goal.returns
returns c =
    let a = c.args in
    let words76 : length a.words.now ≡ 76 = search rules in
    let values16 : length a.registers.values ≡ 16 = search rules in
    let labels16 : length a.registers.labels ≡ 16 = search rules in
    let values : c.copy_from_slice.new.self ≡ a.registers.values
    = c.copy_from_slice.ensures.after ∙ mapped_same c.map.ensures.items values16 (λ x y p q called. search rules) in
    let labels : c.copy_from_slice-2.new.self ≡ a.registers.labels
    = c.copy_from_slice-2.ensures.after ∙ mapped_same c.map-2.ensures.items labels16 (λ x y p q called. search rules) in
    rw
    (values, labels, copied a.words.now a.registers.values 44 16 values16 (omega arith), copied (sets a.words.now 44 a.registers.values) a.registers.labels 60 16 labels16 (omega (arith, length-sets a.words.now 44 a.registers.values)))
    (sets_then a.words.now 44 a.registers.values a.registers.labels (rw values16 refl))
