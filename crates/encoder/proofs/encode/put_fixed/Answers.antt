-- `encoder::encode::put_fixed` meets its contract.
-- Assumes nothing.
use borrow.Author.Rules.{rules}
use native.Mathlib.Omega.{arith}
use Prim.Native.Nat.{ℕ}
use mathlib.Core.Path.{◌≡◌, refl, ◌∙◌}
use mathlib.Core.List.{List, [], ◌∷◌}
use lib.ListN.{length}
use lib.Seq.{sets, length-sets}
use Rattle.model.specs.Numbers.{most_gates}
use Rattle.encoder.specs.Layout.{gates_words}
use Rattle.encoder.proofs.Laws.{length_gates, gates_joined}
use Rattle.encoder.proofs.Lists.{copied}
use Rattle.encoder.proofs.encode.put_fixed.Goals as goal

pub returns : goal.returns
returns c =
    let a = c.args.fixed in
    let all : length a.gates ≡ most_gates = search rules in
    let words76 : length c.args.words.now ≡ 76 = search rules in
    let gates : c.copy_from_slice.new.self ≡ gates_words a.gates
    = c.copy_from_slice.ensures.after ∙ c.as_flattened.ensures.value ∙ rw c.gates_words-gates.ensures (gates_joined a.gates) in
    let four : List ℕ = a.size ∷ a.limit ∷ a.errorpc ∷ a.count ∷ [] in
    let begun = sets c.args.words.now 0 four in
    let begun76 : length begun ≡ 76 = length-sets c.args.words.now 0 four ∙ words76 in
    rw
    (c.into.ensures, c.into-2.ensures, c.into-3.ensures, c.into-4.ensures, gates, copied begun (gates_words a.gates) 4 24 (rw (length_gates, all) refl) (omega arith))
    refl
