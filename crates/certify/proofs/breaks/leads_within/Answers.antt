-- `certify::breaks::leads_within` meets its contract.
-- Assumes nothing.
use Prim.Native.Nat.{◌<◌}
use mathlib.Core.Path.{◌≡◌, sym, ap, ◌∙◌}
use native.Mathlib.Omega.{arith}
use lib.ListN.{length, take}
use lib.Seq.{length-take-le}
use borrow.Author.Rules.{rules}
use Rattle.std.proofs.lemmas.List.{get_or-take}
use Rattle.model.specs.Numbers.{most_gates}
use Rattle.model.specs.WellFormed.{no_gate}
use Rattle.certificates.specs.Certificate.{leads_within}
use Rattle.certify.proofs.Leads.{leads_none, leads_more, leads_here}
use Rattle.certify.proofs.breaks.leads_within.Goals as goal
use Rattle.certify.proofs.breaks.leads_within.Goals.{Start}

-- The gates looked at are as many as are counted.
counted : (c : Start) → length (take c.args.fixed.count c.args.fixed.gates) ≡ c.args.fixed.count
counted c =
    let all : length c.args.fixed.gates ≡ most_gates = search rules in
    length-take-le c.args.fixed.count c.args.fixed.gates (omega (arith, c.requires))

pub loop-gate-init : goal.loop-gate-init
loop-gate-init c = leads_none _ _

pub returns-then-is_within : goal.returns-then-is_within
returns-then-is_within c =
    let few : c.loop-gate.gate-index < c.args.fixed.count = omega (arith, counted (goal.at.returns-then-is_within c).Start) in
    sym (leads_here c.args.label c.args.fixed c.loop-gate.gate-index c.args.fixed.count few
    (rw (get_or-take c.args.fixed.count c.args.fixed.gates c.loop-gate.gate-index no_gate few) at (sym c.if-is_within.ensures)))

pub loop-gate-preserved : goal.loop-gate-preserved
loop-gate-preserved c =
    let few : c.loop-gate.gate-index < c.args.fixed.count = omega (arith, counted (goal.at.loop-gate-preserved c).Start) in
    leads_more c.args.label c.args.fixed c.loop-gate.gate-index c.loop-gate.invariant
    (rw (get_or-take c.args.fixed.count c.args.fixed.gates c.loop-gate.gate-index no_gate few) at (sym c.if-is_within.ensures))

pub returns : goal.returns
returns c =
    let all : c.loop-gate.gate-index ≡ c.args.fixed.count = omega (arith, counted (goal.at.returns c).Start) in
    sym c.loop-gate.invariant ∙ ap (leads_within c.args.label c.args.fixed) all
