-- Two machines that are alike at or below ℓ have one first break: what breaks the certificate of the one breaks that of
-- the other, at the same tick and place. Level, they attempt both or neither; away in an upcall nothing breaks, and both
-- come back alike; outside for good with no gate that leads within, nothing breaks any more.
-- Assumes nothing.
use Prim.Native.Nat.{ℕ, zero, suc, ◌+◌, ◌-◌, ◌<◌, ◌≤◌}
use mathlib.Core.Path.{◌≡◌, refl, sym, ap, ap₂, ◌∙◌, subst}
use mathlib.Core.Logic.{⊎_elim}
use mathlib.Core.Bool.{Bool, true, false, not, ◌&&◌, ◌||◌, and-false, or-false}
use native.Mathlib.Nat.{le_refl}
use native.Mathlib.Omega.{arith}
use lib.Dec.{eqb}
use Rattle.labels.specs.Label.{principals, flows}
use Rattle.principals.proofs.Laws.{flows_refl}
use Rattle.model.specs.declared.Pair.{Pair}
use Rattle.model.specs.declared.CallGate.{CallGate}
use Rattle.model.specs.declared.Fixed.{Fixed}
use Rattle.model.specs.declared.Control.{Control}
use Rattle.model.specs.Record.{State, register, machine_of, pair_of, newest, in_upcall}
use Rattle.model.specs.Word.{a_field, b_field}
use Rattle.model.specs.Ops.{Change, write, goto, enter, open_upcall, open_gate, close_gate, stop, La}
use Rattle.model.specs.Step.{Fetched, failed, fetched, fetch, Decision, rest, spend, stall, close, carry, end_tick, running, decide, is_carried, with_control, changed, control_after, step}
use Rattle.model.specs.Seen.{within, seen_control, SameSetting}
use Rattle.noninterference.specs.Noninterference.{timed_from_outside}
use Rattle.certificates.specs.Certificate.{is_relabelling, tries_release, releases, attempts, leads_within, at_large, Certificate, release_from, breaks, break_at}
use Rattle.model.proofs.Truth.{either, clash, and_iff, not_iff, same_outcome}
use Rattle.model.proofs.Ready.{Fit, Ready}
use Rattle.model.proofs.Legal.{LegalChange, writes, goes, enters, calls, gates, returns, stops, Legal, rests, spends, stalls, closes, carries, legal}
use Rattle.model.proofs.WellFormed.{top_upcall, step_fixed, step_control}
use Rattle.model.proofs.Step.{step_ready, step_ended, step_passes, end_tick_late}
use Rattle.model.proofs.Sight.{Alike, alike_sym, alike_trans, within_down, flows_equal, flows_alike}
use Rattle.noninterference.proofs.Unseen.{hidden_step, Lost, lost_decision, restored_closed, opened_upcall, opened_gate, Away, back, Still, Onward, still, returned, away_step}
use Rattle.model.proofs.Visible.{setting_sym, Together, bare, fetch_same, decide_similar, a_exists, b_exists}
use Rattle.noninterference.proofs.Lockstep.{visible_control, visible_alike}
use Rattle.noninterference.proofs.Paths.{Both, timing_within, Abroad, away, abroad, seen_control_lem, setting_on, end_tick_same}
use Rattle.certificates.proofs.Attempts.{large, unbroken, step_provisos}
use Rattle.certificates.proofs.Watch.{Breaks, attempted, broken, later, ended_quiet}

-- ---- a state from outside attempts nothing

releases_outside : (ℓ : ℕ) (s : State) → within ℓ s.control.pair.pc ≡ false → (f : Fetched) → releases ℓ s f ≡ false
unfolding tries_release
releases_outside ℓ s o (failed why) = refl
releases_outside ℓ s o (fetched w op) = rw (o, and-false)

outside_quiet : (ℓ : ℕ) (s : State) → within ℓ s.control.pair.pc ≡ false → attempts ℓ s ≡ false
unfolding attempts
outside_quiet ℓ s o = rw (releases_outside ℓ s o (fetch s), and-false)

-- ---- level machines attempt both or neither

-- Whether an op is carried out does not go by what it writes.
carried_bare : (d : Decision) → is_carried (bare d) ≡ is_carried d
carried_bare rest = refl
carried_bare spend = refl
carried_bare (stall why) = refl
carried_bare (close cause) = refl
carried_bare (carry ticks (write x)) = refl
carried_bare (carry ticks (goto k)) = refl
carried_bare (carry ticks (enter q)) = refl
carried_bare (carry ticks (open_upcall k q e)) = refl
carried_bare (carry ticks (open_gate g)) = refl
carried_bare (carry ticks close_gate) = refl
carried_bare (carry ticks stop) = refl

-- Tried in the one it is tried in the other: the label outside is outside in both, and the rest can be seen.
tries_there : (ℓ : ℕ) {c : Control} {a b : State} → Together (within ℓ) c a b → (w : ℕ) → tries_release ℓ (with_control a c) w ≡ true
    → tries_release ℓ (with_control b c) w ≡ true
unfolding tries_release within
tries_there ℓ {c} {a} {b} h w e =
    let one = with_control a c in
    let two = with_control b c in
    let k = simp (and_iff, not_iff) at e in
    let la : flows (La one w) ℓ ≡ flows (La two w) ℓ = flows_alike h.down h.alike (flows_refl principals ℓ).holds (register (a_field w)) (a_exists one w) in
    let lb = flows_equal h.down h.alike h.pc (register (b_field w)) (b_exists one w) k.0.0.1 in
    rw (← lb.0, ← lb.1, ← la) e

tries_same : (ℓ : ℕ) {c : Control} {a b : State} → Together (within ℓ) c a b → Together (within ℓ) c b a → (w : ℕ)
    → tries_release ℓ (with_control a c) w ≡ tries_release ℓ (with_control b c) w
tries_same ℓ h k w = same_outcome _ _ (tries_there ℓ h w) (tries_there ℓ k w)

releases_same : (ℓ : ℕ) {c : Control} {a b : State} → Together (within ℓ) c a b → Together (within ℓ) c b a → (f : Fetched)
    → releases ℓ (with_control a c) f ≡ releases ℓ (with_control b c) f
releases_same ℓ h k (failed why) = refl
releases_same ℓ h k (fetched w op) = ap (λ (x : Bool). is_relabelling op && x) (tries_same ℓ h k w)

together_attempts : (ℓ : ℕ) {c : Control} {a b : State} → Together (within ℓ) c a b → Together (within ℓ) c b a
    → within ℓ c.pair.timing ≡ true → attempts ℓ (with_control a c) ≡ attempts ℓ (with_control b c)
unfolding attempts
together_attempts ℓ {c} {a} {b} h k m =
    ap₂ (λ (x y : Bool). x && y)
    (sym (carried_bare (decide (with_control a c))) ∙ ap is_carried (decide_similar h m).bare ∙ carried_bare (decide (with_control b c)))
    (releases_same ℓ h k (fetch (with_control a c)) ∙ ap (releases ℓ (with_control b c)) (fetch_same h))

-- The same of two states with equal control.
level_attempts : (ℓ : ℕ) (s t : State) → s.control ≡ t.control → within ℓ s.control.pair.pc ≡ true
    → within ℓ s.control.pair.timing ≡ true → SameSetting s t → SameSetting t s → Alike (within ℓ) s t
    → attempts ℓ s ≡ attempts ℓ t
level_attempts ℓ s t e pc timing same back =
    subst (λ (c : Control). Alike (within ℓ) s (with_control t c) → attempts ℓ s ≡ attempts ℓ (with_control t c)) e
    (λ al.
    together_attempts ℓ (record { down = within_down ℓ; pc = pc; setting = same; alike = al })
    (record { down = within_down ℓ; pc = pc; setting = back; alike = alike_sym al }) timing)

-- ---- states of one control and equal setting break alike

-- The first n gates, as far as there are so many.
leads_same : (ℓ n : ℕ) (s t : State) → SameSetting s t → n ≤ s.fixed.count
    → leads_within ℓ s.fixed n ≡ leads_within ℓ t.fixed n
unfolding leads_within
leads_same ℓ zero s t e h = refl
leads_same ℓ (suc n) s t e h =
    ap₂ (λ (x y : Bool). x || y) (ap (λ (g : CallGate). within ℓ g.pair.pc) (e.gates n h))
    (leads_same ℓ n s t e (omega arith))

gates_same : (ℓ : ℕ) (s t : State) → SameSetting s t
    → leads_within ℓ s.fixed s.fixed.count ≡ leads_within ℓ t.fixed t.fixed.count
gates_same ℓ s t e = leads_same ℓ s.fixed.count s t e (le_refl _) ∙ ap (leads_within ℓ t.fixed) e.count

large_same : (ℓ : ℕ) (s t : State) → SameSetting s t → s.control ≡ t.control → at_large ℓ s ≡ at_large ℓ t
unfolding at_large
large_same ℓ s t e c =
    ap₂ (λ (x y : Bool). x && y)
    (ap (λ (d : Control). not (within ℓ d.pair.pc) && not (in_upcall d)) c) (gates_same ℓ s t e)

timed_same : (ℓ : ℕ) (s t : State) → s.control ≡ t.control → timed_from_outside ℓ s ≡ timed_from_outside ℓ t
unfolding timed_from_outside
timed_same ℓ s t c = ap (λ (d : Control). within ℓ d.pair.pc && not (within ℓ d.pair.timing)) c

breaks_same : (ℓ : ℕ) (s t : State) → SameSetting s t → s.control ≡ t.control → breaks ℓ s ≡ breaks ℓ t
unfolding breaks
breaks_same ℓ s t e c = ap₂ (λ (x y : Bool). x || y) (large_same ℓ s t e c) (timed_same ℓ s t c)

break_same : (ℓ : ℕ) (s t : State) → SameSetting s t → s.control ≡ t.control → break_at ℓ s ≡ break_at ℓ t
unfolding break_at
break_same ℓ s t e c = rw (large_same ℓ s t e c, c)

-- ---- outside for good, with no gate that leads within

-- No gate leads within.
abbrev Shut : ℕ → State → Type 0
Shut ℓ s = leads_within ℓ s.fixed s.fixed.count ≡ false

shut_large : (ℓ : ℕ) (s : State) → Shut ℓ s → at_large ℓ s ≡ false
unfolding at_large
shut_large ℓ s h = rw (h, and-false)

-- A state outside is broken by cause 2 alone.
outside_breaks : (ℓ : ℕ) (s : State) → within ℓ s.control.pair.pc ≡ false → at_large ℓ s ≡ false → breaks ℓ s ≡ false
unfolding breaks timed_from_outside
outside_breaks ℓ s o a = rw (a, o)

-- A state outside and in no upcall that isn't broken has its gates shut.
large_shut : (ℓ : ℕ) (s : State) → within ℓ s.control.pair.pc ≡ false → in_upcall s.control ≡ false
    → at_large ℓ s ≡ false → Shut ℓ s
unfolding at_large
large_shut ℓ s o u a = rw (o, u) at a

-- A step from there stays so.
shut_step : (ℓ : ℕ) (s : State) → Ready s → Lost ℓ s.control → Shut ℓ s → Lost ℓ (step s).control
shut_step ℓ s r l h =
    rw (step_control s)
    (lost_decision ℓ s r.fit l
    (λ g.
    ⊎_elim
    (λ (i : within ℓ (control_after s (decide s)).pair.pc ≡ true).
    clash (large ℓ s (legal s r) g l.outside i) (shut_large ℓ s h))
    (λ (i : within ℓ (control_after s (decide s)).pair.pc ≡ false). i)
    (either (within ℓ (control_after s (decide s)).pair.pc)))
    (legal s r))

-- ---- away in an upcall

-- Nothing breaks there.
away_unbroken : (ℓ : ℕ) (s : State) → Away ℓ s → breaks ℓ s ≡ false
unfolding at_large
away_unbroken ℓ s a = outside_breaks ℓ s a.outside (rw (a.upcall, and-false))

-- The state in which a machine that is away comes back, and what breaks from there on.
record Home (ℓ : ℕ) (s : State) : Type 0 where
  state : State
  ready : Ready state
  control : state.control ≡ back s.control.first s.control.second
  fixed : state.fixed ≡ s.fixed
  alike : Alike (within ℓ) state s
  broken : breaks ℓ state ≡ true → Breaks ℓ s (break_at ℓ state)
  whole : {c : Certificate} → breaks ℓ state ≡ false → Breaks ℓ state c → Breaks ℓ s c

-- One more step before.
home_step : (ℓ : ℕ) (s : State) → Ready s → Away ℓ s → Still ℓ s (step s) → Home ℓ (step s) → Home ℓ s
home_step ℓ s r a w h =
    let quiet = outside_quiet ℓ s a.outside in
    let calm = away_unbroken ℓ (step s) w.away in
    record {
      state = h.state;
      ready = h.ready;
      control = h.control ∙ ap₂ back w.first w.second;
      fixed = h.fixed ∙ step_fixed s;
      alike = alike_trans h.alike (hidden_step ℓ s r a.outside);
      broken = λ b. later quiet calm (h.broken b);
      whole = λ b more. later quiet calm (h.whole b more);
    }

-- The step with which it comes back.
home_now : (ℓ : ℕ) (s : State) → Ready s → Away ℓ s → (step s).control ≡ back s.control.first s.control.second → Home ℓ s
home_now ℓ s r a e =
    let quiet = outside_quiet ℓ s a.outside in
    record {
      state = step s;
      ready = step_ready s r;
      control = e;
      fixed = step_fixed s;
      alike = hidden_step ℓ s r a.outside;
      broken = λ b. broken quiet b;
      whole = λ b more. later quiet b more;
    }

-- Where the limit lets the upcall close it comes back.
home : (ℓ n : ℕ) (s : State) → Ready s → Away ℓ s → end_tick s < s.fixed.limit → end_tick s - s.control.clock < n → Home ℓ s
home ℓ zero s r a l h = absurd (omega arith)
home ℓ (suc n) s r a l h =
    go (away_step ℓ s r a)
    (λ w d. home ℓ n (step s) (step_ready s r) w.away (rw (same w, step_fixed s) l) (rw (same w) d))
  where
    same : Still ℓ s (step s) → end_tick (step s) ≡ end_tick s
    same w = end_tick_same (step s) s w.first w.second

    -- It is running, before and after.
    alive : (u : State) → Away ℓ u → end_tick u ≡ end_tick s → u.fixed.limit ≡ s.fixed.limit → running u ≡ true
    alive u b e f =
        ⊎_elim (λ (x : running u ≡ true). x) (λ (x : u.fixed.limit ≤ end_tick u). absurd (omega arith)) b.alive

    nearer : (w : Still ℓ s (step s)) → end_tick s - (step s).control.clock < n
    nearer w =
        let p = step_passes s r in
        let v = end_tick_late (step s) (step_ready s r).fit w.away.upcall in
        let e = same w in
        ⊎_elim
        (λ (k : s.control.clock < (step s).control.clock). omega arith)
        (λ (k : eqb (step s).control.end 0 ≡ false).
        clash (alive (step s) w.away e (ap (λ (f : Fixed). f.limit) (step_fixed s))) (unfold running in k))
        (p.progress (alive s a refl refl))

    go : Onward ℓ s (step s)
        → ((w : Still ℓ s (step s)) → end_tick s - (step s).control.clock < n → Home ℓ (step s)) → Home ℓ s
    go (still w) more = home_step ℓ s r a w (more w (nearer w))
    go (returned e k) more = home_now ℓ s r a e

-- ---- after a step from within, an open upcall was kept with the pc label within

module _ (ℓ : ℕ) (s : State) (f : Fit (machine_of s)) (i : within ℓ s.control.pair.pc ≡ true) where
  -- An upcall that was open before: what it keeps flows to p.
  kept_before : in_upcall s.control ≡ true → within ℓ (pair_of (newest s.control)).pc ≡ true
  unfolding in_upcall newest
  kept_before u = (within_down ℓ).below (top_upcall f.calls u).pc i

  kept_change : {ticks : ℕ} {c : Change} (k : ℕ) → LegalChange s ticks c → in_upcall (changed s.control k c) ≡ true
      → within ℓ (pair_of (newest (changed s.control k c))).pc ≡ true
  unfolding changed in_upcall newest
  kept_change k (writes h) u = kept_before u
  kept_change k goes u = kept_before u
  kept_change k (enters v p t) u = kept_before u
  kept_change k (calls {k = j} {e = e} h) u =
      ap (λ (q : Pair). within ℓ q.pc) (opened_upcall j e s.control.pair f.calls h.outside) ∙ i
  kept_change k (gates h) u = clash u (opened_gate (s.control.pc + 1) s.control.pair f.calls h.empty)
  kept_change k (returns g p) u = clash u (restored_closed s.control k f.calls)
  kept_change k (stops n) u = kept_before u

  kept_decision : {d : Decision} → Legal s d → in_upcall (control_after s d) ≡ true
      → within ℓ (pair_of (newest (control_after s d))).pc ≡ true
  unfolding control_after in_upcall newest
  kept_decision (rests r) u = kept_before u
  kept_decision (spends r h) u = kept_before u
  kept_decision (stalls r n a b) u = kept_before u
  kept_decision (closes r v c l) u = clash u (restored_closed s.control (end_tick s + 1) f.calls)
  kept_decision (carries r long lim v h) u = kept_change _ h u

kept_step : (ℓ : ℕ) (s : State) → Ready s → within ℓ s.control.pair.pc ≡ true → in_upcall (step s).control ≡ true
    → within ℓ (pair_of (newest (step s).control)).pc ≡ true
kept_step ℓ s r i u = rw (step_control s) (kept_decision ℓ s r.fit i (legal s r) (rw (step_control s) at u))

-- ---- how the two stand

-- Ended with one control; level, with one control within; both away in one upcall that was kept with the pc label within;
-- or both outside for good with the gates shut.
pub data Twin (ℓ : ℕ) (s t : State) : Type 0 where
  over : running t ≡ false → Twin ℓ s t
  level : s.control ≡ t.control → within ℓ s.control.pair.pc ≡ true → within ℓ s.control.pair.timing ≡ true → Twin ℓ s t
  gone : Away ℓ s → Away ℓ t → s.control.first ≡ t.control.first → s.control.second ≡ t.control.second → Twin ℓ s t
  lost : Lost ℓ t.control → Shut ℓ t → Twin ℓ s t

-- Two machines with one control stand so, where the state isn't broken and an open upcall was kept with the pc label
-- within.
twins : (ℓ : ℕ) (s t : State) → SameSetting s t → s.control ≡ t.control → breaks ℓ s ≡ false
    → (in_upcall s.control ≡ true → within ℓ (pair_of (newest s.control)).pc ≡ true) → Twin ℓ s t
unfolding running
twins ℓ s t same e b k =
    ⊎_elim
    (λ (r : running s ≡ true).
    ⊎_elim
    (λ (i : within ℓ s.control.pair.pc ≡ true).
    level e i (timing_within ℓ s (unbroken ℓ s b).1 i))
    (λ (o : within ℓ s.control.pair.pc ≡ false).
    ⊎_elim
    (λ (h : Abroad ℓ s.control).
    gone (away ℓ s h) (away ℓ t (subst (Abroad ℓ) e h)) (ap (λ c. c.first) e) (ap (λ c. c.second) e))
    (λ (h : Lost ℓ s.control).
    ⊎_elim
    (λ (u : in_upcall s.control ≡ true). clash (k u) (h.closed u))
    (λ (u : in_upcall s.control ≡ false).
    lost (subst (Lost ℓ) e h) (sym (gates_same ℓ s t same) ∙ large_shut ℓ s o u (unbroken ℓ s b).0))
    (either (in_upcall s.control)))
    (abroad ℓ s.control o r))
    (either (within ℓ s.control.pair.pc)))
    (λ (r : running s ≡ false). over (ap (λ (c : Control). eqb c.end 0) (sym e) ∙ r))
    (either (running s))

-- ---- one first break

-- Two machines that can be compared, neither of them broken.
pub record Compared (ℓ : ℕ) (s t : State) : Type 0 where
  pub both : Both ℓ s t
  pub one : breaks ℓ s ≡ false
  pub two : breaks ℓ t ≡ false

-- Level: one step each.
module _ (ℓ : ℕ) (s t : State) (h : Compared ℓ s t) (e : s.control ≡ t.control) (pc : within ℓ s.control.pair.pc ≡ true)
    (timing : within ℓ s.control.pair.timing ≡ true)
  where
    abbrev both : Both ℓ s t
    both = h.both

    level_same : attempts ℓ s ≡ attempts ℓ t
    level_same = level_attempts ℓ s t e pc timing both.setting (setting_sym both.setting) both.alike

    level_control : (step s).control ≡ (step t).control
    level_control = visible_control ℓ s t e pc timing both.setting both.alike

    level_setting : SameSetting (step s) (step t)
    level_setting = setting_on (step s) (step t) both.setting (step_fixed s) (step_fixed t)

    level_broken : breaks ℓ (step s) ≡ breaks ℓ (step t)
    level_broken = breaks_same ℓ (step s) (step t) level_setting level_control

    -- One release, at one tick and place.
    level_release : release_from s ≡ release_from t
    level_release =
        ap₂ (λ (c d : Control). record { cause = 1; tick = c.clock; place = d.pc }) level_control e

    -- Neither attempts a release, and neither is broken after it: the two can be compared again.
    level_on : attempts ℓ t ≡ false → breaks ℓ (step t) ≡ false → Compared ℓ (step s) (step t)
    level_on a b =
        let a' = level_same ∙ a in
        let b' = level_broken ∙ b in
        record {
          both =
              record {
                one = step_ready s both.one;
                two = step_ready t both.two;
                setting = level_setting;
                alike =
                    visible_alike ℓ s t e pc timing both.setting both.one
                    (step_provisos ℓ s both.one a' (unbroken ℓ s h.one).0 (unbroken ℓ (step s) b').1) both.alike
                    both.two (step_provisos ℓ t both.two a (unbroken ℓ t h.two).0 (unbroken ℓ (step t) b).1);
              };
          one = b';
          two = b;
        }

    level_twins : breaks ℓ (step s) ≡ false → Twin ℓ (step s) (step t)
    unfolding within
    level_twins b = twins ℓ (step s) (step t) level_setting level_control b (kept_step ℓ s both.one pc)

-- The second takes a step that nobody sees.
unseen_step : {ℓ : ℕ} {s t : State} → Compared ℓ s t → within ℓ t.control.pair.pc ≡ false → breaks ℓ (step t) ≡ false
    → Compared ℓ s (step t)
unseen_step {ℓ} {s} {t} h o b =
    record {
      both =
          record {
            one = h.both.one;
            two = step_ready t h.both.two;
            setting = setting_on s (step t) h.both.setting refl (step_fixed t);
            alike = alike_trans h.both.alike (alike_sym (hidden_step ℓ t h.both.two o));
          };
      one = h.one;
      two = b;
    }

-- Both come back from the upcall.
module _ (ℓ : ℕ) (s t : State) (h : Compared ℓ s t) (a : Away ℓ s) (b : Away ℓ t) (f : s.control.first ≡ t.control.first)
    (g : s.control.second ≡ t.control.second) (e : (step t).control ≡ back t.control.first t.control.second)
    (l : end_tick t < t.fixed.limit)
  where
    comes : Home ℓ s
    comes =
        home ℓ (suc (end_tick s - s.control.clock)) s h.both.one a
        (rw (end_tick_same s t f g, h.both.setting.limit) l) (le_refl _)

    home_control : comes.state.control ≡ (step t).control
    home_control = comes.control ∙ ap₂ back f g ∙ sym e

    home_setting : SameSetting comes.state (step t)
    home_setting = setting_on comes.state (step t) h.both.setting comes.fixed (step_fixed t)

    home_broken : breaks ℓ comes.state ≡ breaks ℓ (step t)
    home_broken = breaks_same ℓ comes.state (step t) home_setting home_control

    home_pair : breaks ℓ (step t) ≡ false → Compared ℓ comes.state (step t)
    home_pair n =
        record {
          both =
              record {
                one = comes.ready;
                two = step_ready t h.both.two;
                setting = home_setting;
                alike =
                    alike_trans comes.alike
                    (alike_trans h.both.alike (alike_sym (hidden_step ℓ t h.both.two b.outside)));
              };
          one = home_broken ∙ n;
          two = n;
        }

    home_within : within ℓ comes.state.control.pair.pc ≡ true
    unfolding newest
    home_within = ap (λ (c : Control). within ℓ c.pair.pc) comes.control ∙ a.kept

    home_twins : breaks ℓ (step t) ≡ false → Twin ℓ comes.state (step t)
    unfolding within
    home_twins n =
        level home_control home_within
        (timing_within ℓ comes.state (unbroken ℓ comes.state (home_broken ∙ n)).1 home_within)

-- Away: the second is still there, and nothing has broken, or both are back.
away_broken : {ℓ : ℕ} {s t : State} → Compared ℓ s t → Away ℓ s → Away ℓ t → s.control.first ≡ t.control.first
    → s.control.second ≡ t.control.second → Onward ℓ t (step t) → breaks ℓ (step t) ≡ true
    → Breaks ℓ s (break_at ℓ (step t))
away_broken {ℓ} {s} {t} h x y f g (still w) b = clash b (away_unbroken ℓ (step t) w.away)
away_broken {ℓ} {s} {t} h x y f g (returned e l) b =
    subst (Breaks ℓ s)
    (break_same ℓ (comes ℓ s t h x y f g e l).state (step t) (home_setting ℓ s t h x y f g e l) (home_control ℓ s t h x y f g e l))
    ((comes ℓ s t h x y f g e l).broken (home_broken ℓ s t h x y f g e l ∙ b))

away_later : {ℓ : ℕ} {s t : State} {c : Certificate} → Compared ℓ s t → Away ℓ s → Away ℓ t → s.control.first ≡ t.control.first
    → s.control.second ≡ t.control.second → Onward ℓ t (step t) → breaks ℓ (step t) ≡ false
    → ((u : State) → Compared ℓ u (step t) → Twin ℓ u (step t) → Breaks ℓ u c) → Breaks ℓ s c
away_later {ℓ} {s} {t} h x y f g (still w) b more =
    more s (unseen_step h y.outside b) (gone x w.away (f ∙ sym w.first) (g ∙ sym w.second))
away_later {ℓ} {s} {t} h x y f g (returned e l) b more =
    let u = comes ℓ s t h x y f g e l in
    u.whole (home_broken ℓ s t h x y f g e l ∙ b)
    (more u.state (home_pair ℓ s t h x y f g e l b) (home_twins ℓ s t h x y f g e l b))

-- However they stand: the second attempts a release, or is broken after its step, or goes on.
twin_attempted : {ℓ : ℕ} {s t : State} → Compared ℓ s t → Twin ℓ s t → attempts ℓ t ≡ true → Breaks ℓ s (release_from t)
twin_attempted {ℓ} {s} {t} h (over r) a = clash a (ended_quiet ℓ t r)
twin_attempted {ℓ} {s} {t} h (level e p m) a =
    subst (Breaks ℓ s) (level_release ℓ s t h e p m) (attempted (level_same ℓ s t h e p m ∙ a))
twin_attempted {ℓ} {s} {t} h (gone x y f g) a = clash a (outside_quiet ℓ t y.outside)
twin_attempted {ℓ} {s} {t} h (lost l u) a = clash a (outside_quiet ℓ t l.outside)

twin_broken : {ℓ : ℕ} {s t : State} → Compared ℓ s t → Twin ℓ s t → attempts ℓ t ≡ false → breaks ℓ (step t) ≡ true
    → Breaks ℓ s (break_at ℓ (step t))
twin_broken {ℓ} {s} {t} h (over r) a b = clash b (ap (breaks ℓ) (step_ended t r) ∙ h.two)
twin_broken {ℓ} {s} {t} h (level e p m) a b =
    subst (Breaks ℓ s) (break_same ℓ (step s) (step t) (level_setting ℓ s t h e p m) (level_control ℓ s t h e p m))
    (broken (level_same ℓ s t h e p m ∙ a) (level_broken ℓ s t h e p m ∙ b))
twin_broken {ℓ} {s} {t} h (gone x y f g) a b = away_broken h x y f g (away_step ℓ t h.both.two y) b
twin_broken {ℓ} {s} {t} h (lost l u) a b =
    let k = shut_step ℓ t h.both.two l u in
    clash b (outside_breaks ℓ (step t) k.outside (shut_large ℓ (step t) (rw (step_fixed t) u)))

twin_later : {ℓ : ℕ} {s t : State} {c : Certificate} → Compared ℓ s t → Twin ℓ s t → attempts ℓ t ≡ false
    → breaks ℓ (step t) ≡ false → ((u : State) → Compared ℓ u (step t) → Twin ℓ u (step t) → Breaks ℓ u c) → Breaks ℓ s c
twin_later {ℓ} {s} {t} h (over r) a b more =
    let e = step_ended t r in more s (subst (Compared ℓ s) (sym e) h) (over (ap running e ∙ r))
twin_later {ℓ} {s} {t} h (level e p m) a b more =
    let b' = level_broken ℓ s t h e p m ∙ b in
    later (level_same ℓ s t h e p m ∙ a) b' (more (step s) (level_on ℓ s t h e p m a b) (level_twins ℓ s t h e p m b'))
twin_later {ℓ} {s} {t} h (gone x y f g) a b more = away_later h x y f g (away_step ℓ t h.both.two y) b more
twin_later {ℓ} {s} {t} h (lost l u) a b more =
    more s (unseen_step h l.outside b) (lost (shut_step ℓ t h.both.two l u) (rw (step_fixed t) u))

-- The first break of the second machine is that of the first.
pub twin_breaks : {ℓ : ℕ} {t : State} {c : Certificate} → Breaks ℓ t c → (s : State) → Compared ℓ s t → Twin ℓ s t → Breaks ℓ s c
twin_breaks (attempted a) s h w = twin_attempted h w a
twin_breaks (broken a b) s h w = twin_broken h w a b
twin_breaks (later a b more) s h w = twin_later h w a b (λ u k x. twin_breaks more u k x)

-- ---- from two loaded states

-- Two machines that start alike, in no upcall, with the first unbroken.
pub first_twins : (ℓ : ℕ) (s t : State) → SameSetting s t → seen_control ℓ s ≡ seen_control ℓ t → in_upcall s.control ≡ false
    → in_upcall t.control ≡ false → breaks ℓ s ≡ false → Twin ℓ s t
first_twins ℓ s t same c u v b =
    ⊎_elim
    (λ (e : s.control ≡ t.control). twins ℓ s t same e b (λ x. clash x u))
    (λ (o : (within ℓ s.control.pair.pc ≡ false) × (within ℓ t.control.pair.pc ≡ false)).
    lost (record { outside = o.1; closed = λ x. clash x v })
    (sym (gates_same ℓ s t same) ∙ large_shut ℓ s o.0 u (unbroken ℓ s b).0))
    (seen_control_lem ℓ s t c)

-- Broken in the one is broken in the other, in one way, where the clocks are one.
pub first_broken : (ℓ : ℕ) (s t : State) → SameSetting s t → seen_control ℓ s ≡ seen_control ℓ t → in_upcall s.control ≡ false
    → in_upcall t.control ≡ false → s.control.clock ≡ t.control.clock
    → (breaks ℓ s ≡ breaks ℓ t) × (breaks ℓ s ≡ true → break_at ℓ s ≡ break_at ℓ t)
unfolding breaks break_at at_large timed_from_outside
first_broken ℓ s t same c u v k =
    ⊎_elim
    (λ (e : s.control ≡ t.control). (breaks_same ℓ s t same e, λ b. break_same ℓ s t same e))
    (λ (o : (within ℓ s.control.pair.pc ≡ false) × (within ℓ t.control.pair.pc ≡ false)).
    both_outside o.0 o.1)
    (seen_control_lem ℓ s t c)
  where
    -- Outside, what breaks a state are the gates alone.
    gates_alone : (x : State) → within ℓ x.control.pair.pc ≡ false → in_upcall x.control ≡ false
        → (breaks ℓ x ≡ leads_within ℓ x.fixed x.fixed.count) × (at_large ℓ x ≡ leads_within ℓ x.fixed x.fixed.count)
    gates_alone x o n = ((rw (o, n) (or-false _)), rw (o, n) refl)

    both_outside : within ℓ s.control.pair.pc ≡ false → within ℓ t.control.pair.pc ≡ false
        → (breaks ℓ s ≡ breaks ℓ t) × (breaks ℓ s ≡ true → break_at ℓ s ≡ break_at ℓ t)
    both_outside o q =
        let x = gates_alone s o u in
        let y = gates_alone t q v in
        let g = gates_same ℓ s t same in
        (x.0 ∙ g ∙ sym y.0, λ b. let j = sym x.0 ∙ b in rw (x.1 ∙ j, y.1 ∙ sym g ∙ j, k))
