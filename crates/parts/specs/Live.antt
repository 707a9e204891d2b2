-- The control while the machine runs, and the control that it stands for.
-- Assumes nothing.
use Rattle.std.specs.Prelude.{◌≡◌, ◌⊎◌, Bool, true, false, ◌||◌, cond, eqb, refl}
use mathlib.Core.Bool.{false≢true}
use Rattle.model.specs.declared.Control.{Control}
use Rattle.model.specs.declared.Call.{Call}
use Rattle.model.specs.declared.Call.TheVariants.{Empty, Gate, Upcall}
use Rattle.model.specs.Record.{is_empty, is_gate, is_upcall, return_of, pair_of, end_tick_of}
use Rattle.parts.specs.declared.live.Frame.{Frame}
use Rattle.parts.specs.declared.live.Live.{Live}

-- The call that a frame holds, by its kind: none, a gate call, or an upcall.
unfoldable pub call_of : Frame → Call
call_of f = cond (eqb f.kind 0) Empty (cond (eqb f.kind 1) (Gate f.back f.pair) (Upcall f.back f.pair f.end))

-- If it is an upcall, its end tick is that of the frame.
pub upcall_ends : (f : Frame) → is_upcall (call_of f) ≡ true → f.end ≡ end_tick_of (call_of f)
unfolding call_of
upcall_ends f = go (eqb f.kind 0) (eqb f.kind 1)
  where
    go : (none gate : Bool)
        → let c : Call = cond none Empty (cond gate (Gate f.back f.pair) (Upcall f.back f.pair f.end)) in
        is_upcall c ≡ true → f.end ≡ end_tick_of c
    go true gate e = absurd (false≢true e)
    go false true e = absurd (false≢true e)
    go false false e = refl

-- No open call.
abbrev pub no_frame : Frame
no_frame = record { end = 0; back = 0; pair = record { pc = 0; timing = 0 }; kind = 0 }

-- The frame of a call.
abbrev pub frame_of : Call → Frame
frame_of Empty = no_frame
frame_of (Gate k q) = record { end = 0; back = k; pair = q; kind = 1 }
frame_of (Upcall k q e) = record { end = e; back = k; pair = q; kind = 2 }

-- The control of a machine that runs on from this one: its newest call on top.
abbrev pub live_of : Control → Live
live_of c =
    record {
      pc = c.pc;
      pair = c.pair;
      clock = c.clock;
      newest = cond (is_empty c.second) (frame_of c.first) (frame_of c.second);
      older = cond (is_empty c.second) no_frame (frame_of c.first);
      end = c.end;
      why = c.why;
    }

-- It has one open call at the most, and that is the newest.
abbrev pub is_lone : Live → Bool
is_lone l = is_empty (call_of l.older) || is_empty (call_of l.newest)

-- The control that it stands for: a lone call is in the first place.
abbrev pub control_of : Live → Control
control_of l =
    record {
      pc = l.pc;
      pair = l.pair;
      clock = l.clock;
      first = cond (is_lone l) (call_of l.newest) (call_of l.older);
      second = cond (is_lone l) Empty (call_of l.newest);
      end = l.end;
      why = l.why;
    }

-- A frame has nothing but what its call keeps.
pub record Tidy (f : Frame) : Type 0 where
  pub back : return_of (call_of f) ≡ f.back
  pub pair : pair_of (call_of f) ≡ f.pair
  pub end : end_tick_of (call_of f) ≡ f.end

-- Both frames are so, and a call lies only under an upcall, and is then a gate call.
pub record Stacked (l : Live) : Type 0 where
  pub newest : Tidy l.newest
  pub older : Tidy l.older
  pub under : (is_empty (call_of l.older) ≡ true) ⊎ ((is_gate (call_of l.older) ≡ true) × (is_upcall (call_of l.newest) ≡ true))

-- The same of the two places: the second is empty, or holds an upcall over a gate call.
abbrev pub stacks : Call → Call → Bool
stacks first Empty = true
stacks first (Gate k q) = false
stacks first (Upcall k q e) = is_gate first

-- A control that holds its calls so, and the same while the machine runs.
pub record Lives (c : Control) (l : Live) : Type 0 where
  pub same : control_of l ≡ c
  pub stacked : Stacked l
