-- Which states have what the steps rest on.
-- Assumes nothing.
use Rattle.std.specs.Prelude.{ℕ, ◌≤◌, ◌≡◌, Bool, true, ◌&&◌, List, leb, length}
use Rattle.model.specs.declared.Fixed.{Fixed}
use Rattle.model.specs.declared.Control.{Control}
use Rattle.model.specs.declared.Call.{Call}
use Rattle.model.specs.declared.Call.TheVariants.{Empty, Gate, Upcall}
use Rattle.model.specs.Numbers.{most_words, most_ticks, most_gates}
use Rattle.model.specs.Record.{State}
use Rattle.model.specs.WellFormed.{lent_whole}
use Rattle.parts.specs.Calls.{newest_of}
use Rattle.parts.specs.Live.{stacks}

-- A call, if it is an upcall, ends at the clock or later.
abbrev pub is_timely : ℕ → Call → Bool
is_timely clock Empty = true
is_timely clock (Gate k q) = true
is_timely clock (Upcall k q e) = leb clock e

-- The ranges hold that the steps rest on, words and labels are lent whole, and the calls are as a machine stacks them.
abbrev pub fitting : State → Bool
fitting s =
    leb s.fixed.size most_words && leb s.fixed.limit most_ticks && leb s.fixed.count most_gates
    && leb s.control.clock s.fixed.limit && lent_whole s.fixed.size s.memory
    && (stacks s.control.first s.control.second
    && is_timely s.control.clock (newest_of s.control.first s.control.second))

-- The same as facts, which the steps ask.
pub record InRanges (fixed : Fixed) (control : Control) (words marks : List ℕ) : Type 0 where
  pub size : fixed.size ≤ most_words
  pub limit : fixed.limit ≤ most_ticks
  pub gates : fixed.count ≤ most_gates
  pub clock : control.clock ≤ fixed.limit
  pub words_lent : fixed.size ≤ length words
  pub marks_lent : fixed.size ≤ length marks
  pub stacked : stacks control.first control.second ≡ true
  pub timely : is_timely control.clock (newest_of control.first control.second) ≡ true
