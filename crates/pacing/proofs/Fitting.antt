-- A well-formed record whose memory is lent whole fits, and what fits has what the steps ask.
-- Assumes nothing.
use Prim.Native.Nat.{ℕ}
use mathlib.Core.Path.{◌≡◌, refl}
use mathlib.Core.Bool.{true, ◌&&◌}
use mathlib.Core.List.{List, []}
use lib.Dec.{leb}
use borrow.Author.Tests.{le-leb, leb-true}
use Rattle.model.specs.declared.Fixed.{Fixed}
use Rattle.model.specs.declared.Control.{Control}
use Rattle.model.specs.declared.Pair.{Pair}
use Rattle.model.specs.declared.Call.{Call}
use Rattle.model.specs.Numbers.{most_words, most_ticks, most_gates}
use Rattle.model.specs.Record.{State, lent, machine_of, state_from}
use Rattle.model.specs.WellFormed.{well_formed, lent_whole}
use Rattle.model.proofs.Truth.{and_iff}
use Rattle.model.proofs.Ready.{CallsFit, none, gate, upcall, both, fit, whole_lengths}
use Rattle.parts.specs.Calls.{newest_of}
use Rattle.parts.specs.Live.{stacks}
use Rattle.pacing.specs.Fitting.{is_timely, fitting, InRanges}

-- Well-formed calls are as a machine stacks them.
calls_stack : {now : Pair} {clock : ℕ} {first second : Call} → CallsFit now clock first second → stacks first second ≡ true
calls_stack none = refl
calls_stack (gate v) = refl
calls_stack (upcall u) = refl
calls_stack (both v u) = refl

-- The newest of them, if it is an upcall, ends at the clock or later.
calls_timely : {now : Pair} {clock : ℕ} {first second : Call} → CallsFit now clock first second
    → is_timely clock (newest_of first second) ≡ true
calls_timely none = refl
calls_timely (gate v) = refl
calls_timely (upcall u) = le-leb _ _ u.started
calls_timely (both v u) = le-leb _ _ u.started

-- Such a record.
pub ready_fitting : (s : State) → well_formed (machine_of s) ≡ true → lent_whole s.fixed.size s.memory ≡ true
    → fitting s ≡ true
ready_fitting s e l =
    let f = fit (machine_of s) e in
    rw
    (le-leb s.fixed.size most_words f.fixed.size_high, le-leb s.fixed.limit most_ticks f.fixed.limit_high, le-leb s.fixed.count most_gates f.fixed.gates, le-leb s.control.clock s.fixed.limit f.clock, l, calls_stack f.calls, calls_timely f.calls)

-- The test says what the steps ask.
pub ranges_of : (fixed : Fixed) (c : Control) (words marks : List ℕ) → fitting (state_from fixed c [] [] words marks) ≡ true → InRanges fixed c words marks
ranges_of fixed c words marks e =
    let calls = (and_iff _ (stacks c.first c.second && is_timely c.clock (newest_of c.first c.second))).0 e in
    let whole = (and_iff _ (lent_whole fixed.size (lent words marks))).0 calls.0 in
    let clock = (and_iff _ (leb c.clock fixed.limit)).0 whole.0 in
    let gates = (and_iff _ (leb fixed.count most_gates)).0 clock.0 in
    let both = (and_iff (leb fixed.size most_words) (leb fixed.limit most_ticks)).0 gates.0 in
    let stack = (and_iff (stacks c.first c.second) (is_timely c.clock (newest_of c.first c.second))).0 calls.1 in
    let lengths = whole_lengths fixed.size (lent words marks) whole.1 in
    record {
      size = leb-true fixed.size most_words both.0;
      limit = leb-true fixed.limit most_ticks both.1;
      gates = leb-true fixed.count most_gates gates.1;
      clock = leb-true c.clock fixed.limit clock.1;
      words_lent = lengths.0;
      marks_lent = lengths.1;
      stacked = stack.0;
      timely = stack.1;
    }
