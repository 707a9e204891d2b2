-- What the tests of a line's numbers say: each number is in its range.
-- Assumes nothing.
use Prim.Native.Nat.{ℕ, ◌≤◌, ◌<◌}
use mathlib.Core.Path.{◌≡◌}
use mathlib.Core.Bool.{true}
use borrow.Author.Tests.{leb-true, ltb-true}
use Rattle.labels.specs.Label.{label_count}
use Rattle.model.specs.declared.judging.Header.{Header}
use Rattle.model.specs.Numbers.{value_count, most_words, most_ticks, most_gates}
use Rattle.model.specs.Ops.{is_label}
use Rattle.model.specs.Load.{header_in_range, gate_in_range, entry_in_range}
use Rattle.model.proofs.Truth.{and_iff}

-- The numbers of a G line, in their ranges.
pub record GateRange (count pc p t : ℕ) : Type 0 where
  pub pc_fits : pc < value_count
  pub p_fits : p < label_count
  pub t_fits : t < label_count
  pub few : count < most_gates

-- What the test of a G line says.
pub gate_range : (count pc p t : ℕ) → gate_in_range count pc p t ≡ true → GateRange count pc p t
unfolding gate_in_range is_label
gate_range count pc p t e =
    let q = simp and_iff at e in
    record {
      pc_fits = ltb-true _ _ q.0.0.0;
      p_fits = ltb-true _ _ q.0.0.1;
      t_fits = ltb-true _ _ q.0.1;
      few = ltb-true _ _ q.1;
    }

-- The numbers of an R or W line, in their ranges.
pub record EntryRange (bound k l v : ℕ) : Type 0 where
  pub below : k < bound
  pub label : l < label_count
  pub value : v < value_count

-- What the test of an R or W line says.
pub entry_range : (bound k l v : ℕ) → entry_in_range bound k l v ≡ true → EntryRange bound k l v
unfolding entry_in_range is_label
entry_range bound k l v e =
    let q = simp and_iff at e in
    record { below = ltb-true _ _ q.0.0; label = ltb-true _ _ q.0.1; value = ltb-true _ _ q.1 }

-- The numbers of an M line, in their ranges.
pub record HeaderRange (h : Header) : Type 0 where
  pub size_fits : h.size ≤ most_words
  pub errorpc_fits : h.errorpc < value_count
  pub pc_fits : h.pc < value_count
  pub p_fits : h.p < label_count
  pub t_fits : h.t < label_count
  pub limit_fits : h.limit ≤ most_ticks

-- What the test of an M line says.
pub header_range : (h : Header) → header_in_range h ≡ true → HeaderRange h
unfolding header_in_range is_label
header_range h e =
    let q = simp and_iff at e in
    record {
      size_fits = leb-true _ _ q.0.0.0.0.0.1;
      errorpc_fits = ltb-true _ _ q.0.0.0.0.1;
      pc_fits = ltb-true _ _ q.0.0.0.1;
      p_fits = ltb-true _ _ q.0.0.1;
      t_fits = ltb-true _ _ q.0.1;
      limit_fits = leb-true _ _ q.1.1;
    }
