-- `machine_record::wellformed::gates_valid` meets its contract.
-- Assumes nothing.
use native.Mathlib.Omega.{arith}
use borrow.Author.Rules.{rules}
use mathlib.Core.Path.{◌≡◌, ◌∙◌}
use lib.ListN.{length, take}
use Rattle.std.proofs.Common.{tests}
use Rattle.std.proofs.lemmas.Iterator.{YieldsList-from_slice}
use Rattle.std.proofs.lemmas.Iterator.Search.{all_from_yields_List}
use Rattle.model.specs.declared.CallGate.{CallGate}
use Rattle.model.specs.Numbers.{most_gates}
use Rattle.model.specs.WellFormed.{is_valid}
use Rattle.machine_record.proofs.Gates.{first_gates}
use Rattle.machine_record.proofs.wellformed.gates_valid.Goals as goal

pub returns : goal.returns
returns c =
    let gates = c.args.gates in
    let all : length gates ≡ most_gates = search rules in
    all_from_yields_List (λ (g : CallGate). is_valid g.pair) _ _ _ c.all.ensures.ran
    (YieldsList-from_slice (take c.args.count gates) cc) (λ x b q k. search (rules, tests))
    ∙ first_gates gates c.args.count (omega arith)
