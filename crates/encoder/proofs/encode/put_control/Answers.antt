-- `encoder::encode::put_control` meets its contract.
-- Assumes nothing.
use borrow.Author.Rules.{rules}
use native.Mathlib.Omega.{arith}
use Prim.Native.Nat.{ℕ}
use mathlib.Core.Path.{◌≡◌, refl, ◌∙◌}
use mathlib.Core.List.{List, [], ◌∷◌}
use lib.ListN.{length}
use lib.Seq.{sets, length-sets}
use Rattle.encoder.specs.Layout.{call_words}
use Rattle.encoder.proofs.Lists.{copied}
use Rattle.encoder.proofs.encode.put_control.Goals as goal

pub returns : goal.returns
returns c =
    let a = c.args.control in
    let words = c.args.words.now in
    let words76 : length words ≡ 76 = search rules in
    let first : c.copy_from_slice.new.self ≡ call_words a.first = c.copy_from_slice.ensures.after ∙ c.call_words.ensures in
    let second : c.copy_from_slice-2.new.self ≡ call_words a.second = c.copy_from_slice-2.ensures.after ∙ c.call_words-2.ensures in
    let four : List ℕ = a.pc ∷ a.pair.pc ∷ a.pair.timing ∷ a.clock ∷ [] in
    let begun = sets words 28 four in
    let both = sets begun 32 (call_words a.first) in
    let begun76 : length begun ≡ 76 = length-sets words 28 four ∙ words76 in
    let both76 : length both ≡ 76 = length-sets begun 32 (call_words a.first) ∙ begun76 in
    rw
    (c.into.ensures, c.into-2.ensures, c.into-3.ensures, c.into-4.ensures, c.into-5.ensures, c.into-6.ensures, first, second, copied begun (call_words a.first) 32 5 refl (omega arith), copied both (call_words a.second) 37 5 refl (omega arith))
    refl
