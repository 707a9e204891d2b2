-- The facts hold, by computation.
-- Assumes nothing.
use mathlib.Core.Path.{◌≡◌, refl}
use mathlib.Core.Bool.{Bool, true}
use Rattle.principals.specs.Principals.{subset, label, integrity, confidentiality, flows, join, meet, reflection, uncompromised, valid_pair, lowest, may_raise, may_relabel, trusted, secret}
use Rattle.causes.specs.Tests.{first_refusal}
use Rattle.model.specs.Record.{newest, in_upcall, value_at, label_at}
use Rattle.model.specs.WellFormed.{fixed_in_range, end_in_range, upcall_well_formed, zero_reads, gates_valid, well_formed, lent_whole}
use Rattle.model.specs.Word.{op_field, a_field, b_field, c_field, d_field, n_field, decode, compute}
use Rattle.model.specs.Ops.{writable, is_label, significant_bits, multiply_count, multiply_ticks, new_pair_allowed, may_upcall, may_call_gate, may_return, table}
use Rattle.model.specs.Step.{fetch, end_tick, finish, fault, attempt, beyond_limit, in_limit, running, decide, written, cause_allowed, cause_write, write_of, restored, changed, control_after, apply, step, steps, run}
use lib.Count.{count_leading_zeros}
use Rattle.model.specs.Load.{gate_in_range, in_order, line_tests}
use Rattle.model.specs.PairTest.{decide_tested, step_tested}
use Rattle.model.specs.Facts.{facts, every}

-- All that a step computes with: the definitions of labels too. Who says `unfolding stepping` opens each of them.
unfoldable pub stepping : Bool
unfolding subset label integrity confidentiality flows join meet reflection uncompromised valid_pair lowest may_raise may_relabel trusted secret newest in_upcall value_at label_at fixed_in_range end_in_range upcall_well_formed zero_reads gates_valid well_formed lent_whole op_field a_field b_field c_field d_field n_field decode compute writable is_label significant_bits multiply_count multiply_ticks new_pair_allowed may_upcall may_call_gate may_return table fetch end_tick finish fault attempt beyond_limit in_limit running decide written cause_allowed cause_write write_of restored changed control_after apply step steps run count_leading_zeros
stepping = true

-- Every row of the table.
pub facts_hold : every facts ≡ true
unfolding stepping decide_tested step_tested first_refusal line_tests in_order gate_in_range
facts_hold = refl
