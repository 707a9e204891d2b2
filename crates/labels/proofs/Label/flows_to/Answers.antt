-- `labels::Label::flows_to` meets its contract: flow over whole labels.
-- Assumes nothing.
use mathlib.Core.Path.{◌∙◌, ap₂}
use native.Mathlib.Omega.{arith}
use Rattle.principals.specs.Principals.{may_go}
use Rattle.labels.specs.Label.{principals}
use Rattle.principals.proofs.Whole.{restricted_flows}
use Rattle.labels.proofs.Label.flows_to.Goals as goal

pub returns : goal.returns
returns c =
    c.may_go.ensures ∙ ap₂ may_go c.restrictions.ensures c.lacking.ensures
    ∙ restricted_flows principals _ _ (omega arith)
