-- The ticks of a common op that is looked at alone.
-- Assumes nothing.
use Rattle.std.specs.Prelude.{◌≡◌, ℕ, ◌≤◌, Bool, true, List, bit_or, slice_index}
use Rattle.principals.specs.Principals.{may_go}
use Rattle.labels.specs.Label.{lacking}
use Rattle.model.specs.Record.{State}
use Rattle.model.specs.Word.{Op, immediate, arithmetic, load, store, branch, jump, read_clock, set_label, set_pair, upcall, end_upcall, gate_call, gate_return, halt, op_field, b_field, c_field, decode}
use Rattle.model.specs.Ops.{arithmetic_ticks, table}
use Rattle.model.specs.Step.{Fetched, failed, fetched, known}
use Rattle.parts.specs.Stages.{is_common_op}
use Rattle.turns.specs.Turned.{Mirrors}

-- By the op, by whether its operands may show in the time, and by Rc. Of what is no common op 1 is said.
abbrev pub common_ticks : Op → Bool → ℕ → ℕ
common_ticks immediate visible v = 1
common_ticks (arithmetic f) visible v = arithmetic_ticks f visible v
common_ticks load visible v = 3
common_ticks store visible v = 3
common_ticks (branch f) visible v = 1
common_ticks jump visible v = 1
common_ticks read_clock visible v = 1
common_ticks (set_label f) visible v = 1
common_ticks set_pair visible v = 1
common_ticks upcall visible v = 1
common_ticks end_upcall visible v = 1
common_ticks gate_call visible v = 1
common_ticks gate_return visible v = 1
common_ticks halt visible v = 1

-- The same of a word that may have no op.
abbrev pub fetched_ticks : Fetched → Bool → ℕ → ℕ
fetched_ticks (failed why) visible v = 1
fetched_ticks (fetched w op) visible v = common_ticks op visible v

-- The ticks of the word w under the timing label t, with these registers.
unfoldable pub ticks_at : ℕ → ℕ → List ℕ → List ℕ → ℕ
ticks_at w t values turned =
    fetched_ticks (known w (decode (op_field w)))
    (may_go (bit_or (slice_index turned (b_field w)) (slice_index turned (c_field w))) (lacking t)) (slice_index values (c_field w))

-- The ticks of the common op in the word w, in every state with this timing label and these registers.
pub record Timing (w t : ℕ) (values turned : List ℕ) (r : ℕ) : Type 0 where
  pub is :
      (s : State) (op : Op) → s.control.pair.timing ≡ t → s.registers.values ≡ values → Mirrors s.registers.labels turned
      → known w (decode (op_field w)) ≡ fetched w op → is_common_op op ≡ true → r ≡ (table s w op).ticks
  pub few : r ≤ 34
