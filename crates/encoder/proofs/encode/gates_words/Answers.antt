-- `encoder::encode::gates_words` meets its contract.
-- Assumes nothing.
use borrow.Author.Rules.{rules}
use Rattle.model.specs.WellFormed.{no_gate}
use Rattle.encoder.specs.Layout.{gate_words}
use Rattle.encoder.proofs.Lists.{mapped}
use Rattle.encoder.proofs.encode.gates_words.Goals as goal

pub returns : goal.returns
returns c = mapped no_gate gate_words c.map.ensures.items (search rules) (λ x y p q called. search rules)
