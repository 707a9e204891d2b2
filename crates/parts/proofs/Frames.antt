-- Laws about the control while the machine runs: which call a frame holds, and which control is meant.
-- Assumes nothing.
use mathlib.Core.Path.{◌≡◌, refl, ap, ◌∙◌}
use mathlib.Core.Logic.{inl, inr}
use mathlib.Core.Bool.{Bool, true, false, ◌||◌, cond, false≢true}
use Rattle.model.specs.declared.Control.{Control}
use Rattle.model.specs.declared.Call.{Call}
use Rattle.model.specs.declared.Call.TheVariants.{Empty, Gate, Upcall}
use Rattle.model.specs.Record.{is_empty, is_gate, is_upcall, newest}
use Rattle.parts.specs.declared.live.Live.{Live}
use Rattle.parts.specs.Live.{call_of, frame_of, live_of, control_of, Tidy, stacks, Lives}

-- ---- frames as they are made

-- The frame of a call holds it.
pub frame_held : (c : Call) → call_of (frame_of c) ≡ c
unfolding call_of
frame_held Empty = refl
frame_held (Gate k q) = refl
frame_held (Upcall k q e) = refl

-- And nothing else.
pub frame_tidy : (c : Call) → Tidy (frame_of c)
unfolding call_of
frame_tidy Empty = record { back = refl; pair = refl; end = refl }
frame_tidy (Gate k q) = record { back = refl; pair = refl; end = refl }
frame_tidy (Upcall k q e) = record { back = refl; pair = refl; end = refl }

-- ---- what a call is by its kind

pub empty_is : (c : Call) → is_empty c ≡ true → c ≡ Empty
empty_is Empty e = refl
empty_is (Gate k q) e = absurd (false≢true e)
empty_is (Upcall k q e') e = absurd (false≢true e)

-- A gate call is one.
pub gate_full : (c : Call) → is_gate c ≡ true → is_empty c ≡ false
gate_full Empty e = absurd (false≢true e)
gate_full (Gate k q) e = refl
gate_full (Upcall k q e') e = refl

-- And so is an upcall.
pub upcall_full : (c : Call) → is_upcall c ≡ true → is_empty c ≡ false
upcall_full Empty e = absurd (false≢true e)
upcall_full (Gate k q) e = absurd (false≢true e)
upcall_full (Upcall k q e') e = refl

-- ---- the control that is meant

-- Its newest call is that of the newest frame.
pub newest_is : (l : Live) → newest (control_of l) ≡ call_of l.newest
unfolding newest
newest_is l = go (is_empty (call_of l.older)) (call_of l.newest)
  where
    go : (b : Bool) (c : Call)
        → cond (is_empty (cond (b || is_empty c) Empty c)) (cond (b || is_empty c) c (call_of l.older)) (cond (b || is_empty c) Empty c) ≡ c
    go true c = refl
    go false Empty = refl
    go false (Gate k q) = refl
    go false (Upcall k q e) = refl

-- A control that holds its calls as a machine stacks them, and the same while the machine runs.
pub lives : (c : Control) {l : Live} → l ≡ live_of c → stacks c.first c.second ≡ true → Lives c l
lives c e h = rw e (go c.first c.second h)
  where
    go : (x y : Call) → stacks x y ≡ true
        → Lives (record { pc = c.pc; pair = c.pair; clock = c.clock; first = x; second = y; end = c.end; why = c.why })
        (live_of (record { pc = c.pc; pair = c.pair; clock = c.clock; first = x; second = y; end = c.end; why = c.why }))
    go x Empty h =
        record {
          same = rw (frame_held Empty, frame_held x);
          stacked = record { newest = frame_tidy x; older = frame_tidy Empty; under = inl (ap is_empty (frame_held Empty)) };
        }
    go x (Gate k q) h = absurd (false≢true h)
    go x (Upcall k q e) h =
        record {
          same = rw (frame_held x, frame_held (Upcall k q e), gate_full x h);
          stacked =
              record {
                newest = frame_tidy (Upcall k q e);
                older = frame_tidy x;
                under = inr (ap is_gate (frame_held x) ∙ h, ap is_upcall (frame_held (Upcall k q e)));
              };
        }
