-- One step with the pc label outside ℓ. It shows nothing. It stays outside, unless it closes an upcall that was kept with
-- the pc label within, and then it is back at the end tick + 1 with a control that its open calls alone decide.
-- Assumes nothing.
use Prim.Native.Nat.{ℕ, ◌+◌, ◌<◌, ◌≤◌}
use mathlib.Core.Path.{◌≡◌, refl, sym, ap, ◌∙◌}
use mathlib.Core.Logic.{◌⊎◌, inl, inr}
use mathlib.Core.Bool.{Bool, true, false, cond}
use native.Mathlib.Nat.{le_refl}
use native.Mathlib.Omega.{arith}
use Rattle.principals.proofs.Laws.{not_flows}
use Rattle.model.specs.declared.Pair.{Pair}
use Rattle.model.specs.declared.Control.{Control}
use Rattle.model.specs.declared.Call.{Call}
use Rattle.model.specs.declared.Call.TheVariants.{Empty, Gate, Upcall}
use Rattle.model.specs.Record.{State, Location, register, word, machine_of, value_at, label_at, is_empty, is_gate, is_upcall, return_of, pair_of, end_tick_of, newest, in_upcall}
use Rattle.model.specs.Ops.{Write, Change}
use Rattle.model.specs.Step.{Decision, carry, end_tick, finish, running, decide, written, write_of, with_control, restored, changed, control_after, apply, step}
use Rattle.model.specs.Seen.{within, exists, seen_by}
use Rattle.noninterference.specs.Noninterference.{calls_gate, gate_calls_in, StepProvisos}
use Rattle.model.proofs.Truth.{clash}
use Rattle.model.proofs.Writes.{written_fixed}
use Rattle.model.proofs.Ready.{◌⊑◌, Fit, CallsFit, none, gate, upcall, both, Ready}
use Rattle.model.proofs.Legal.{LegalWrite, keeps, sets, marks, allowed, LegalChange, writes, goes, enters, calls, gates, returns, stops, Legal, rests, spends, stalls, closes, carries, legal}
use Rattle.model.proofs.WellFormed.{running_end, step_control}
use Rattle.model.proofs.Step.{there, step_write, step_clock, end_tick_late}
use Rattle.model.proofs.Sight as sight
use Rattle.model.proofs.Sight.{Alike, alike_trans, inside_exists, Hidden, Fits, hidden_write}

-- ---- a step from outside shows nothing

-- What p flows to is outside where p is.
pub outside_on : (ℓ : ℕ) {p m : ℕ} → p ⊑ m → within ℓ p ≡ false → within ℓ m ≡ false
unfolding within
outside_on ℓ h e = not_flows ℓ h e

-- A legal write from outside is hidden.
legal_hidden : (ℓ : ℕ) (s : State) {w : Write} → within ℓ s.control.pair.pc ≡ false → LegalWrite s w → Hidden (within ℓ) s w
legal_hidden ℓ s e keeps = sight.none
legal_hidden ℓ s e (sets i z h v) = sight.sets (outside_on ℓ h e)
legal_hidden ℓ s e (marks i z f h n) =
    let p = allowed f _ _ _ h in sight.marks (outside_on ℓ p.0 e) (outside_on ℓ p.1 e)

-- A legal write is to a location that exists and is there.
pub legal_fits : (s : State) → Ready s → {w : Write} → LegalWrite s w → Fits s w
legal_fits s r keeps = sight.none
legal_fits s r (sets {x = x} i z h v) = sight.sets (there s r x i) (inside_exists s x i)
legal_fits s r (marks {x = x} i z f h n) = sight.marks (there s r x i) (inside_exists s x i)

-- What is seen of the locations does not go by the control.
seen_control_lem : (sees : ℕ → Bool) (s : State) (c : Control) (x : Location) → seen_by sees (with_control s c) x ≡ seen_by sees s x
unfolding seen_by exists label_at value_at
seen_control_lem sees s c (register k) = refl
seen_control_lem sees s c (word k) = refl

pub alike_control : (sees : ℕ → Bool) (s : State) (c : Control) → Alike sees (with_control s c) s
alike_control sees s c = record { size = refl; seen = seen_control_lem sees s c }

-- The locations after a step are those after its write.
pub step_written : (sees : ℕ → Bool) (s : State) → Alike sees (step s) (written s (write_of s (decide s)))
unfolding step apply
step_written sees s = alike_control sees (written s (write_of s (decide s))) (control_after s (decide s))

-- A step from outside shows nothing.
pub hidden_step : (ℓ : ℕ) (s : State) → Ready s → within ℓ s.control.pair.pc ≡ false → Alike (within ℓ) (step s) s
hidden_step ℓ s r e =
    let l = step_write s r in alike_trans (step_written (within ℓ) s) (hidden_write (legal_fits s r l) (legal_hidden ℓ s e l))

-- ---- outside for good: no upcall is open that was kept with the pc label within

-- The control is outside for good.
pub record Lost (ℓ : ℕ) (c : Control) : Type 0 where
  pub outside : within ℓ c.pair.pc ≡ false
  pub closed : in_upcall c ≡ true → within ℓ (pair_of (newest c)).pc ≡ false

-- With the newest call closed no upcall is open.
pub restored_closed : {now : Pair} {clock : ℕ} (c : Control) (k : ℕ) → CallsFit now clock c.first c.second
    → in_upcall (restored c k) ≡ false
unfolding restored in_upcall newest
restored_closed c k f = go f
  where
    go : {now : Pair} {clock : ℕ} {x y : Call} → CallsFit now clock x y → is_upcall (cond (is_empty y) Empty x) ≡ false
    go none = refl
    go (gate h) = refl
    go (upcall h) = refl
    go (both h u) = refl

-- With an upcall opened it is the newest call, and it keeps the pair.
pub opened_upcall : {now : Pair} {clock : ℕ} {x y : Call} (k e : ℕ) (q : Pair) → CallsFit now clock x y
    → is_upcall (cond (is_empty y) x y) ≡ false
    → pair_of (cond (is_empty (cond (is_empty x) Empty (Upcall k q e))) (cond (is_empty x) (Upcall k q e) x) (cond (is_empty x) Empty (Upcall k q e))) ≡ q
opened_upcall k e q none n = refl
opened_upcall k e q (gate h) n = refl
opened_upcall k e q (upcall h) n = clash refl n
opened_upcall k e q (both h u) n = clash refl n

-- With a gate call opened it is the newest call.
pub opened_gate : {now : Pair} {clock : ℕ} {x y : Call} (k : ℕ) (q : Pair) → CallsFit now clock x y
    → is_empty (cond (is_empty y) x y) ≡ true
    → is_upcall (cond (is_empty (cond (is_empty x) Empty (Gate k q))) (cond (is_empty x) (Gate k q) x) (cond (is_empty x) Empty (Gate k q))) ≡ false
opened_gate k q none n = refl
opened_gate k q (gate h) n = refl
opened_gate k q (upcall h) n = clash n refl
opened_gate k q (both h u) n = clash n refl

-- A change from outside for good leaves it so: a gate call, by the proviso.
lost_change : (ℓ : ℕ) (s : State) {ticks : ℕ} {c : Change} (k : ℕ) → Fit (machine_of s) → Lost ℓ s.control
    → (calls_gate (carry ticks c) ≡ true → within ℓ (changed s.control k c).pair.pc ≡ false)
    → LegalChange s ticks c → Lost ℓ (changed s.control k c)
unfolding changed restored in_upcall newest
lost_change ℓ s k f l g (writes h) = record { outside = l.outside; closed = l.closed }
lost_change ℓ s k f l g goes = record { outside = l.outside; closed = l.closed }
lost_change ℓ s k f l g (enters v p t) = record { outside = outside_on ℓ p l.outside; closed = l.closed }
lost_change ℓ s k f l g (calls {k = j} {e = e} h) =
    record {
      outside = outside_on ℓ h.pc l.outside;
      closed = λ u. ap (λ (q : Pair). within ℓ q.pc) (opened_upcall j e s.control.pair f.calls h.outside) ∙ l.outside;
    }
lost_change ℓ s k f l g (gates h) =
    record { outside = g refl; closed = λ u. clash u (opened_gate (s.control.pc + 1) s.control.pair f.calls h.empty) }
lost_change ℓ s k f l g (returns r p) =
    record { outside = outside_on ℓ p l.outside; closed = λ u. clash u (restored_closed s.control k f.calls) }
lost_change ℓ s k f l g (stops n) = record { outside = l.outside; closed = l.closed }

-- So does a decision.
pub lost_decision : (ℓ : ℕ) (s : State) {d : Decision} → Fit (machine_of s) → Lost ℓ s.control
    → (calls_gate d ≡ true → within ℓ (control_after s d).pair.pc ≡ false) → Legal s d → Lost ℓ (control_after s d)
unfolding control_after restored in_upcall newest
lost_decision ℓ s f l g (rests r) = l
lost_decision ℓ s f l g (spends r h) = record { outside = l.outside; closed = l.closed }
lost_decision ℓ s f l g (stalls r n a b) = record { outside = l.outside; closed = l.closed }
lost_decision ℓ s f l g (closes r u c k) =
    record { outside = l.closed u; closed = λ v. clash v (restored_closed s.control (end_tick s + 1) f.calls) }
lost_decision ℓ s f l g (carries r long lim u h) = lost_change ℓ s _ f l g h

-- The proviso on gate calls, for a step from outside.
gate_proviso : (ℓ : ℕ) (s : State) → within ℓ s.control.pair.pc ≡ false → StepProvisos ℓ s (step s)
    → calls_gate (decide s) ≡ true → within ℓ (control_after s (decide s)).pair.pc ≡ false
unfolding gate_calls_in step apply
gate_proviso ℓ s e p g = rw (g, e) at p.gate

-- A step from outside for good stays so.
pub lost_step : (ℓ : ℕ) (s : State) → Ready s → Lost ℓ s.control → StepProvisos ℓ s (step s) → Lost ℓ (step s).control
lost_step ℓ s r l p =
    rw (step_control s) (lost_decision ℓ s r.fit l (gate_proviso ℓ s l.outside p) (legal s r))

-- ---- outside in an upcall that was kept with the pc label within

-- The machine is away in such an upcall. It is running, or the upcall can't be closed before the limit.
pub record Away (ℓ : ℕ) (s : State) : Type 0 where
  pub outside : within ℓ s.control.pair.pc ≡ false
  pub upcall : in_upcall s.control ≡ true
  pub kept : within ℓ (pair_of (newest s.control)).pc ≡ true
  pub alive : (running s ≡ true) ⊎ (s.fixed.limit ≤ end_tick s)

-- The control in which a machine with these two open calls is back from the upcall.
abbrev pub back : Call → Call → Control
back x y =
    record {
      pc = return_of (cond (is_empty y) x y);
      pair = pair_of (cond (is_empty y) x y);
      clock = end_tick_of (cond (is_empty y) x y) + 1;
      first = cond (is_empty y) Empty x;
      second = Empty;
      end = 0;
      why = 0;
    }

-- Away with the same open calls as before.
pub record Still (ℓ : ℕ) (s t : State) : Type 0 where
  pub away : Away ℓ t
  pub first : t.control.first ≡ s.control.first
  pub second : t.control.second ≡ s.control.second

-- A step from there: still away, or back before the limit is passed.
pub data Onward (ℓ : ℕ) (s t : State) : Type 0 where
  still : Still ℓ s t → Onward ℓ s t
  returned : t.control ≡ back s.control.first s.control.second → end_tick s < s.fixed.limit → Onward ℓ s t

-- A call that is an upcall is no gate call and not empty.
upcall_only : (x : Call) → is_upcall x ≡ true → (is_gate x ≡ false) × (is_empty x ≡ false)
upcall_only Empty e = clash refl (sym e)
upcall_only (Gate k q) e = clash refl (sym e)
upcall_only (Upcall k q t) e = (refl, refl)

module _ (ℓ : ℕ) (s u : State) (same : u.fixed ≡ s.fixed) (f : Fit (machine_of s)) (a : Away ℓ s) where
  -- A change in the upcall: what would open or close another call can't be carried out there.
  away_change : {ticks : ℕ} {c : Change} (k : ℕ) → running s ≡ true → LegalChange s ticks c
      → Onward ℓ s (with_control u (changed s.control k c))
  unfolding changed in_upcall newest running end_tick
  away_change k r (writes h) =
      still (record { away = record { outside = a.outside; upcall = a.upcall; kept = a.kept; alive = inl r }; first = refl; second = refl })
  away_change k r goes =
      still (record { away = record { outside = a.outside; upcall = a.upcall; kept = a.kept; alive = inl r }; first = refl; second = refl })
  away_change k r (enters v p t) =
      still (record { away = record { outside = outside_on ℓ p a.outside; upcall = a.upcall; kept = a.kept; alive = inl r }; first = refl; second = refl })
  away_change k r (calls h) = clash a.upcall h.outside
  away_change k r (gates h) = clash h.empty (upcall_only (newest s.control) a.upcall).1
  away_change k r (returns g p) = clash g (upcall_only (newest s.control) a.upcall).0
  away_change k r (stops n) = clash a.upcall n

  -- A decision in the upcall.
  away_decision : {d : Decision} → Legal s d → Onward ℓ s (with_control u (control_after s d))
  unfolding control_after restored in_upcall newest running end_tick
  away_decision (rests r) =
      still (record { away = record { outside = a.outside; upcall = a.upcall; kept = a.kept; alive = rw same a.alive }; first = refl; second = refl })
  away_decision (spends r h) =
      still (record { away = record { outside = a.outside; upcall = a.upcall; kept = a.kept; alive = inr (rw same (h a.upcall (end_tick_late s f a.upcall))) }; first = refl; second = refl })
  away_decision (stalls r n l h) = clash a.upcall n
  away_decision (closes r v c l) =
      let e = running_end s.control r f.end in returned (rw (e.0, e.1)) l
  away_decision (carries r long l v h) = away_change _ r h

-- A step of a machine that is away.
pub away_step : (ℓ : ℕ) (s : State) → Ready s → Away ℓ s → Onward ℓ s (step s)
unfolding step apply
away_step ℓ s r a =
    away_decision ℓ s (written s (write_of s (decide s))) (written_fixed s (write_of s (decide s))) r.fit a (legal s r)

-- In an upcall nothing finishes past the end tick + 1.
in_upcall_soon : (s : State) {d : Decision} → s.control.clock ≤ end_tick s → in_upcall s.control ≡ true → Legal s d
    → finish s d ≤ end_tick s + 1
unfolding finish
in_upcall_soon s l u (rests r) = omega arith
in_upcall_soon s l u (spends r h) = let k = h u l in omega arith
in_upcall_soon s l u (stalls r n a b) = clash u n
in_upcall_soon s l u (closes r v c m) = le_refl _
in_upcall_soon s l u (carries r long m v h) = let k = v u in omega arith

-- While it is away it finishes nothing past the end tick + 1.
pub away_soon : (ℓ : ℕ) (s : State) → Ready s → Away ℓ s → (step s).control.clock ≤ end_tick s + 1
away_soon ℓ s r a =
    rw (step_clock s) (in_upcall_soon s (end_tick_late s r.fit a.upcall) a.upcall (legal s r))
