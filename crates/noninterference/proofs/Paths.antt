-- Two machines, each taking as many steps as bring it to one tick: they are low-equivalent there. The relation between
-- the two, while they go, is that of four cases.
-- Assumes nothing.
use Prim.Native.Nat.{ℕ, zero, suc, ◌+◌, ◌<◌, ◌≤◌}
use mathlib.Core.Path.{◌≡◌, refl, sym, ap, ap₂, ◌∙◌, subst, subst₂}
use mathlib.Core.Logic.{◌⊎◌, inl, inr, ⊎_elim}
use mathlib.Core.Bool.{Bool, true, false, cond}
use native.Mathlib.Nat.{le_refl, le_trans, le_of_suc-le-suc, le-suc}
use native.Mathlib.Omega.{arith}
use lib.Dec.{eqb}
use lib.ListN.{get_or}
use Rattle.model.specs.declared.Fixed.{Fixed}
use Rattle.model.specs.declared.Control.{Control}
use Rattle.model.specs.declared.Call.{Call}
use Rattle.model.specs.Record.{State, is_empty, end_tick_of, pair_of, newest, in_upcall}
use Rattle.model.specs.WellFormed.{no_gate}
use Rattle.model.specs.Step.{end_tick, running, with_control, step, steps}
use Rattle.model.specs.Seen.{within, seen, unseen, seen_control, LowEquivalent, SameSetting}
use Rattle.noninterference.specs.Noninterference.{StepProvisos, timed_from_outside}
use Rattle.model.proofs.Truth.{either, clash, and_iff, not_iff}
use Rattle.model.proofs.Ready.{Ready}
use Rattle.model.proofs.WellFormed.{step_fixed}
use Rattle.model.proofs.Step.{step_ready}
use Rattle.model.proofs.Run.{steps_ended, steps_ready, steps_leave}
use Rattle.model.proofs.Sight.{Alike, alike_sym, alike_trans, no_control}
use Rattle.noninterference.proofs.Unseen.{hidden_step, Lost, lost_step, Away, Still, still, returned, Onward, back, away_step, away_soon}
use Rattle.noninterference.proofs.Lockstep.{visible_control, visible_alike}

-- ---- the relation

-- The provisos of the first j steps.
abbrev pub Allowed : ℕ → ℕ → State → Type 0
Allowed ℓ zero s = Unit {0}
Allowed ℓ (suc j) s = StepProvisos ℓ s (step s) × Allowed ℓ j (step s)

-- A state is the one at tick k: its clock is at most k, and it has ended or its next step finishes past k.
pub record Rests (k : ℕ) (s : State) : Type 0 where
  pub clock : s.control.clock ≤ k
  pub still : (running s ≡ false) ⊎ (k < (step s).control.clock)

-- How two machines stand: ended with one control; running with one control, its labels within; both away in one upcall
-- that was kept with the pc label within; or both outside for good.
data Stand (ℓ : ℕ) (s t : State) : Type 0 where
  over : s.control ≡ t.control → running s ≡ false → Stand ℓ s t
  level : s.control ≡ t.control → running s ≡ true → within ℓ s.control.pair.pc ≡ true
      → within ℓ s.control.pair.timing ≡ true → Stand ℓ s t
  gone : Away ℓ s → Away ℓ t → s.control.first ≡ t.control.first → s.control.second ≡ t.control.second → Stand ℓ s t
  lost : Lost ℓ s.control → Lost ℓ t.control → Stand ℓ s t

-- Two machines that can be compared.
pub record Both (ℓ : ℕ) (s t : State) : Type 0 where
  pub one : Ready s
  pub two : Ready t
  pub setting : SameSetting s t
  pub alike : Alike (within ℓ) s t

-- ---- what is seen of the control

-- Under one control the same is seen of it.
same_control_lem : (ℓ : ℕ) (s t : State) → s.control ≡ t.control → seen_control ℓ s ≡ seen_control ℓ t
unfolding seen_control
same_control_lem ℓ s t e = ap (λ (c : Control). seen_control ℓ (with_control s c)) e

-- A state whose pc label is within has its timing label within, by the proviso.
pub timing_within : (ℓ : ℕ) (s : State) → timed_from_outside ℓ s ≡ false → within ℓ s.control.pair.pc ≡ true
    → within ℓ s.control.pair.timing ≡ true
unfolding timed_from_outside
timing_within ℓ s p e =
    ⊎_elim
    (λ (h : within ℓ s.control.pair.timing ≡ true). h)
    (λ (h : within ℓ s.control.pair.timing ≡ false). clash ((and_iff _ _).1 (e, (not_iff _).1 h)) p)
    (either (within ℓ s.control.pair.timing))

-- ---- how two machines with one control stand

-- A control outside, in an upcall that was kept with the pc label within, and running.
pub record Abroad (ℓ : ℕ) (c : Control) : Type 0 where
  outside : within ℓ c.pair.pc ≡ false
  upcall : in_upcall c ≡ true
  kept : within ℓ (pair_of (newest c)).pc ≡ true
  running : eqb c.end 0 ≡ true

-- The machine is then away.
pub away : (ℓ : ℕ) (s : State) → Abroad ℓ s.control → Away ℓ s
unfolding running
away ℓ s h = record { outside = h.outside; upcall = h.upcall; kept = h.kept; alive = inl h.running }

-- A running control outside is abroad or lost.
pub abroad : (ℓ : ℕ) (c : Control) → within ℓ c.pair.pc ≡ false → eqb c.end 0 ≡ true → Abroad ℓ c ⊎ Lost ℓ c
abroad ℓ c o r =
    ⊎_elim
    (λ (u : in_upcall c ≡ true).
    ⊎_elim
    (λ (k : within ℓ (pair_of (newest c)).pc ≡ true). inl (record { outside = o; upcall = u; kept = k; running = r }))
    (λ (k : within ℓ (pair_of (newest c)).pc ≡ false). inr (record { outside = o; closed = λ v. k }))
    (either (within ℓ (pair_of (newest c)).pc)))
    (λ (u : in_upcall c ≡ false). inr (record { outside = o; closed = λ v. clash v u }))
    (either (in_upcall c))

stand : (ℓ : ℕ) (s t : State) → s.control ≡ t.control → timed_from_outside ℓ s ≡ false → Stand ℓ s t
stand ℓ s t e p =
    ⊎_elim
    (λ (r : running s ≡ true).
    ⊎_elim
    (λ (k : within ℓ s.control.pair.pc ≡ true).
    level e r k (timing_within ℓ s p k))
    (λ (k : within ℓ s.control.pair.pc ≡ false).
    ⊎_elim
    (λ (h : Abroad ℓ s.control).
    gone (away ℓ s h) (away ℓ t (subst (Abroad ℓ) e h)) (ap (λ c. c.first) e) (ap (λ c. c.second) e))
    (λ (h : Lost ℓ s.control). lost h (subst (Lost ℓ) e h))
    (abroad ℓ s.control k (unfold running in r)))
    (either (within ℓ s.control.pair.pc)))
    (λ (r : running s ≡ false). over e r)
    (either (running s))

-- What is seen of the control is the whole of it.
same_seen_lem : {c d : Control} → seen c ≡ seen d → c ≡ d
same_seen_lem e = cc

-- Nothing is both seen and not.
seen_unseen : {c : Control} → seen c ≡ unseen → ⊥
seen_unseen e = let z : ◌≡◌ {A = ℕ} 0 1 = cc in omega arith

-- Of a control that is seen in both it is one.
pub seen_control_lem : (ℓ : ℕ) (s t : State) → seen_control ℓ s ≡ seen_control ℓ t
    → (s.control ≡ t.control) ⊎ ((within ℓ s.control.pair.pc ≡ false) × (within ℓ t.control.pair.pc ≡ false))
unfolding seen_control
seen_control_lem ℓ s t e =
    ⊎_elim
    (λ (x : within ℓ s.control.pair.pc ≡ true).
    ⊎_elim
    (λ (y : within ℓ t.control.pair.pc ≡ true). inl (same_seen_lem (rw (x, y) at e)))
    (λ (y : within ℓ t.control.pair.pc ≡ false). absurd (seen_unseen (rw (x, y) at e)))
    (either (within ℓ t.control.pair.pc)))
    (λ (x : within ℓ s.control.pair.pc ≡ false).
    ⊎_elim
    (λ (y : within ℓ t.control.pair.pc ≡ true). absurd (seen_unseen (sym (rw (x, y) at e))))
    (λ (y : within ℓ t.control.pair.pc ≡ false). inr (x, y))
    (either (within ℓ t.control.pair.pc)))
    (either (within ℓ s.control.pair.pc))

-- How two machines stand that start alike, with no upcall open.
first_stand : (ℓ : ℕ) (s t : State) → timed_from_outside ℓ s ≡ false → seen_control ℓ s ≡ seen_control ℓ t
    → in_upcall s.control ≡ false → in_upcall t.control ≡ false → Stand ℓ s t
first_stand ℓ s t p c u v =
    ⊎_elim
    (λ (e : s.control ≡ t.control). stand ℓ s t e p)
    (λ (o : (within ℓ s.control.pair.pc ≡ false) × (within ℓ t.control.pair.pc ≡ false)).
    lost (record { outside = o.0; closed = λ x. clash x u }) (record { outside = o.1; closed = λ x. clash x v }))
    (seen_control_lem ℓ s t c)

-- ---- outside for good

-- So many steps from there.
lost_steps : (ℓ j : ℕ) (s : State) → Ready s → Lost ℓ s.control → Allowed ℓ j s
    → Lost ℓ (steps j s).control × Alike (within ℓ) (steps j s) s
unfolding steps
lost_steps ℓ zero s r l p = (l, record { size = refl; seen = λ x. refl })
lost_steps ℓ (suc j) s r l p =
    let h = lost_steps ℓ j (step s) (step_ready s r) (lost_step ℓ s r l p.0) p.1 in
    (h.0, alike_trans h.1 (hidden_step ℓ s r l.outside))

-- ---- away in an upcall

-- After so many steps a machine came back in a state from which it took fewer.
record Home (ℓ j : ℕ) (s : State) : Type 0 where
  left : ℕ
  state : State
  fewer : left < j
  ready : Ready state
  control : state.control ≡ back s.control.first s.control.second
  ended : end_tick s < s.fixed.limit
  fixed : state.fixed ≡ s.fixed
  alike : Alike (within ℓ) state s
  same : steps j s ≡ steps left state
  allowed : Allowed ℓ left state
  timed : timed_from_outside ℓ state ≡ false

-- After so many steps it is still away, or it came back.
data Journey (ℓ j : ℕ) (s : State) : Type 0 where
  out : Still ℓ s (steps j s) → Alike (within ℓ) (steps j s) s → Journey ℓ j s
  home : Home ℓ j s → Journey ℓ j s

-- The end tick goes by the open calls.
pub end_tick_same : (s t : State) → s.control.first ≡ t.control.first → s.control.second ≡ t.control.second
    → end_tick s ≡ end_tick t
unfolding end_tick newest
end_tick_same s t p q = ap₂ (λ (x y : Call). end_tick_of (cond (is_empty y) x y)) p q

-- A step away, and then so many.
onward : (ℓ j : ℕ) (s : State) → Ready s → Still ℓ s (step s) → Alike (within ℓ) (step s) s → Journey ℓ j (step s) → Journey ℓ (suc j) s
unfolding steps
onward ℓ j s r w a (out v b) =
    out (record { away = v.away; first = v.first ∙ w.first; second = v.second ∙ w.second }) (alike_trans b a)
onward ℓ j s r w a (home h) =
    home
    (record {
      left = h.left;
      state = h.state;
      fewer = le_trans h.fewer (le-suc j);
      ready = h.ready;
      control = h.control ∙ ap₂ back w.first w.second;
      ended =
          subst₂ (λ (x y : ℕ). x < y) (end_tick_same (step s) s w.first w.second)
          (ap (λ (x : Fixed). x.limit) (step_fixed s)) h.ended;
      fixed = h.fixed ∙ step_fixed s;
      alike = alike_trans h.alike a;
      same = h.same;
      allowed = h.allowed;
      timed = h.timed;
    })

journey_step : (ℓ j : ℕ) (s : State) → Ready s → Away ℓ s → Allowed ℓ (suc j) s → Onward ℓ s (step s)
    → (Away ℓ (step s) → Journey ℓ j (step s)) → Journey ℓ (suc j) s
unfolding steps
journey_step ℓ j s r a p (still w) more = onward ℓ j s r w (hidden_step ℓ s r a.outside) (more w.away)
journey_step ℓ j s r a p (returned e l) more =
    home
    (record {
      left = j;
      state = step s;
      fewer = le_refl _;
      ready = step_ready s r;
      control = e;
      ended = l;
      fixed = step_fixed s;
      alike = hidden_step ℓ s r a.outside;
      same = refl;
      allowed = p.1;
      timed = p.0.timing;
    })

-- So many steps of a machine that is away.
journey : (ℓ j : ℕ) (s : State) → Ready s → Away ℓ s → Allowed ℓ j s → Journey ℓ j s
unfolding steps
journey ℓ zero s r a p = out (record { away = a; first = refl; second = refl }) (record { size = refl; seen = λ x. refl })
journey ℓ (suc j) s r a p =
    journey_step ℓ j s r a p (away_step ℓ s r a) (λ w. journey ℓ j (step s) (step_ready s r) w p.1)

-- The clock does not fall over so many steps.
clock_on : (j : ℕ) (s : State) → Ready s → s.control.clock ≤ (steps j s).control.clock
clock_on j s r = (steps_leave j s r).clock

-- A machine that is back stands at its end tick + 1.
back_clock : (t u : State) → u.control ≡ back t.control.first t.control.second → end_tick t + 1 ≤ u.control.clock
unfolding end_tick newest
back_clock t u e = rw e (le_refl _)

-- One machine can't be still away at a tick at which the other is back: it would be back too.
not_alone : (ℓ k e limit : ℕ) (s : State) → Ready s → Away ℓ s → Rests k s → end_tick s ≡ e → s.fixed.limit ≡ limit
    → e < limit → e + 1 ≤ k → ⊥
not_alone ℓ k e limit s r a h p q l m =
    ⊎_elim
    (λ (x : running s ≡ false).
    ⊎_elim
    (λ (y : running s ≡ true). clash y x)
    (λ (y : s.fixed.limit ≤ end_tick s). omega arith)
    a.alive)
    (λ (x : k < (step s).control.clock). omega (arith, away_soon ℓ s r a))
    h.still

-- ---- two machines to one tick

-- Equal settings stay equal.
pub setting_on : {s t : State} (u v : State) → SameSetting s t → u.fixed ≡ s.fixed → v.fixed ≡ t.fixed → SameSetting u v
setting_on u v e p q =
    record {
      size = ap (λ (f : Fixed). f.size) p ∙ e.size ∙ sym (ap (λ (f : Fixed). f.size) q);
      limit = ap (λ (f : Fixed). f.limit) p ∙ e.limit ∙ sym (ap (λ (f : Fixed). f.limit) q);
      errorpc = ap (λ (f : Fixed). f.errorpc) p ∙ e.errorpc ∙ sym (ap (λ (f : Fixed). f.errorpc) q);
      count = ap (λ (f : Fixed). f.count) p ∙ e.count ∙ sym (ap (λ (f : Fixed). f.count) q);
      gates =
          λ k h. ap (λ (f : Fixed). get_or f.gates k no_gate) p
          ∙ e.gates k (subst (λ (f : Fixed). k < f.count) p h) ∙ sym (ap (λ (f : Fixed). get_or f.gates k no_gate) q);
    }

module _ (ℓ k : ℕ) where
  -- Under one control both are running.
  same_running : {b : Bool} (s t : State) → s.control ≡ t.control → running s ≡ b → running t ≡ b
  unfolding running
  same_running s t e r = ap (λ (c : Control). eqb c.end 0) (sym e) ∙ r

  -- Ended, both stay.
  over_on : (j i : ℕ) (s t : State) → Both ℓ s t → s.control ≡ t.control → running s ≡ false
      → LowEquivalent ℓ (steps j s) (steps i t)
  over_on j i s t b e r =
      rw (steps_ended j s r, steps_ended i t (same_running s t e r))
      (record { locations = b.alike.seen; control = same_control_lem ℓ s t e })

  -- Outside for good, both stay.
  lost_on : (j i : ℕ) (s t : State) → Both ℓ s t → Lost ℓ s.control → Lost ℓ t.control → Allowed ℓ j s → Allowed ℓ i t
      → LowEquivalent ℓ (steps j s) (steps i t)
  lost_on j i s t b l m p q =
      let x = lost_steps ℓ j s b.one l p in
      let y = lost_steps ℓ i t b.two m q in
      record {
        locations = (alike_trans x.1 (alike_trans b.alike (alike_sym y.1))).seen;
        control = no_control ℓ (steps j s) (steps i t) x.0.outside y.0.outside;
      }

  -- A running machine whose step would pass k has taken its last step to it.
  no_more : (i : ℕ) (s t : State) → Ready t → running s ≡ true → (step s).control ≡ (step t).control → Rests k s
      → Rests k (steps (suc i) t) → ⊥
  unfolding steps
  no_more i s t r u e h m =
      ⊎_elim
      (λ (x : running s ≡ false). clash u x)
      (λ (x : k < (step s).control.clock).
      let y = clock_on i (step t) (step_ready t r) in
      let z = ap (λ (c : Control). c.clock) e in omega (arith, m.clock))
      h.still

  -- What holds of fewer steps of the first machine.
  abbrev Fewer : ℕ → Type 0
  Fewer j =
      (m l : ℕ) → m < j → (u v : State) → Both ℓ u v → Stand ℓ u v → Allowed ℓ m u → Allowed ℓ l v
      → Rests k (steps m u) → Rests k (steps l v) → LowEquivalent ℓ (steps m u) (steps l v)

  -- Level: both have come to k, or both take a step.
  level_on : (j i : ℕ) (s t : State) → Both ℓ s t → s.control ≡ t.control → running s ≡ true
      → within ℓ s.control.pair.pc ≡ true → within ℓ s.control.pair.timing ≡ true → Allowed ℓ j s → Allowed ℓ i t → Rests k (steps j s) → Rests k (steps i t) → Fewer j
      → LowEquivalent ℓ (steps j s) (steps i t)
  unfolding steps
  level_on zero zero s t b e r p m x y c d more = record { locations = b.alike.seen; control = same_control_lem ℓ s t e }
  level_on zero (suc i) s t b e r p m x y c d more =
      absurd (no_more i s t b.two r (visible_control ℓ s t e p m b.setting b.alike) c d)
  level_on (suc j) zero s t b e r p m x y c d more =
      absurd
      (no_more j t s b.one (same_running s t e r) (sym (visible_control ℓ s t e p m b.setting b.alike)) d c)
  level_on (suc j) (suc i) s t b e r p m x y c d more =
      more j i (le_refl _) (step s) (step t)
      (record {
        one = step_ready s b.one;
        two = step_ready t b.two;
        setting = setting_on (step s) (step t) b.setting (step_fixed s) (step_fixed t);
        alike = visible_alike ℓ s t e p m b.setting b.one x.0 b.alike b.two y.0;
      })
      (stand ℓ (step s) (step t) (visible_control ℓ s t e p m b.setting b.alike) x.0.timing) x.1 y.1 c d

  -- One machine can't be still away where the other is back.
  half_back : (j i : ℕ) (s t : State) → Ready s → s.fixed.limit ≡ t.fixed.limit
      → s.control.first ≡ t.control.first → s.control.second ≡ t.control.second → Still ℓ s (steps j s)
      → Home ℓ i t → Rests k (steps j s) → Rests k (steps i t) → ⊥
  half_back j i s t r e f g x h p y =
      not_alone ℓ k (end_tick t) t.fixed.limit (steps j s) (steps_ready j s r) x.away p
      (end_tick_same (steps j s) s x.first x.second ∙ end_tick_same s t f g)
      (ap (λ (z : Fixed). z.limit) (steps_leave j s r).fixed ∙ e) h.ended
      (le_trans (back_clock t h.state h.control)
      (le_trans (clock_on h.left h.state h.ready) (subst (λ (z : State). z.control.clock ≤ k) h.same y.clock)))

  -- Away: both still are, or both are back.
  gone_on : (j i : ℕ) (s t : State) → Both ℓ s t → s.control.first ≡ t.control.first → s.control.second ≡ t.control.second
      → Journey ℓ j s → Journey ℓ i t → Rests k (steps j s) → Rests k (steps i t) → Fewer j
      → LowEquivalent ℓ (steps j s) (steps i t)
  gone_on j i s t b f g (out x a) (out y c) p q more =
      record {
        locations = (alike_trans a (alike_trans b.alike (alike_sym c))).seen;
        control = no_control ℓ (steps j s) (steps i t) x.away.outside y.away.outside;
      }
  gone_on j i s t b f g (out x a) (home h) p q more =
      absurd (half_back j i s t b.one b.setting.limit f g x h p q)
  gone_on j i s t b f g (home h) (out x a) p q more =
      absurd (half_back i j t s b.two (sym b.setting.limit) (sym f) (sym g) x h q p)
  gone_on j i s t b f g (home h) (home l) p q more =
      rw (h.same, l.same)
      (more h.left l.left h.fewer h.state l.state
      (record {
        one = h.ready;
        two = l.ready;
        setting = setting_on h.state l.state b.setting h.fixed l.fixed;
        alike = alike_trans h.alike (alike_trans b.alike (alike_sym l.alike));
      })
      (stand ℓ h.state l.state (h.control ∙ ap₂ back f g ∙ sym l.control) h.timed) h.allowed l.allowed
      (subst (Rests k) h.same p) (subst (Rests k) l.same q))

  -- However they stand.
  stand_on : (j i : ℕ) (s t : State) → Both ℓ s t → Stand ℓ s t → Allowed ℓ j s → Allowed ℓ i t → Rests k (steps j s)
      → Rests k (steps i t) → Fewer j → LowEquivalent ℓ (steps j s) (steps i t)
  stand_on j i s t b (over e r) p q x y more = over_on j i s t b e r
  stand_on j i s t b (level e r l m) p q x y more = level_on j i s t b e r l m p q x y more
  stand_on j i s t b (gone a c f g) p q x y more =
      gone_on j i s t b f g (journey ℓ j s b.one a p) (journey ℓ i t b.two c q) x y more
  stand_on j i s t b (lost l m) p q x y more = lost_on j i s t b l m p q

  -- By the number of steps of the first machine.
  to_tick : (n j i : ℕ) → j ≤ n → (s t : State) → Both ℓ s t → Stand ℓ s t → Allowed ℓ j s → Allowed ℓ i t
      → Rests k (steps j s) → Rests k (steps i t) → LowEquivalent ℓ (steps j s) (steps i t)
  to_tick zero j i h s t b d p q x y = stand_on j i s t b d p q x y (λ m l lt. absurd (omega arith))
  to_tick (suc n) j i h s t b d p q x y =
      stand_on j i s t b d p q x y (λ m l lt. to_tick n m l (le_of_suc-le-suc (le_trans lt h)))

  -- Two machines that start alike, each at one tick after as many steps as bring it there.
  pub at_one_tick : (j i : ℕ) (s t : State) → Both ℓ s t → timed_from_outside ℓ s ≡ false → seen_control ℓ s ≡ seen_control ℓ t
      → in_upcall s.control ≡ false → in_upcall t.control ≡ false → Allowed ℓ j s → Allowed ℓ i t
      → Rests k (steps j s) → Rests k (steps i t) → LowEquivalent ℓ (steps j s) (steps i t)
  at_one_tick j i s t b p c u v x y = to_tick j j i (le_refl j) s t b (first_stand ℓ s t p c u v) x y
