-- The witnesses of specs/Witness.antt, by computation: first that the tests say what the statement says, then the tables.
-- This file, and Facts by way of it, opens the definitions of labels, since it computes with them.
-- Assumes nothing.
use Prim.Native.Nat.{ℕ, zero, suc, ◌<◌, ◌≤◌, ◌^◌, max}
use mathlib.Core.Path.{◌≡◌, refl, sym, ap, ap₂, ◌∙◌, subst, subst₂}
use mathlib.Core.Logic.{⊎_elim}
use mathlib.Core.Bool.{Bool, true, false, not, ◌||◌, or-true}
use mathlib.Core.List.{List, [], ◌∷◌}
use native.Mathlib.Omega.{arith}
use lib.Dec.{leb, ltb, eqb}
use lib.ListN.{get_or}
use borrow.Author.Tests.{ltb-true, eqb-true, eqb-false, eq-eqb, le-leb}
use Rattle.model.specs.declared.Pair.{Pair}
use Rattle.model.specs.declared.Call.{Call}
use Rattle.model.specs.declared.Call.TheVariants.{Empty, Gate, Upcall}
use Rattle.principals.specs.Principals.{highest}
use Rattle.model.specs.Record.{State, Location, register, word}
use Rattle.model.specs.WellFormed.{no_gate}
use Rattle.model.specs.Step.{running}
use Rattle.model.specs.Answer.{answer}
use Rattle.model.specs.Text.{is_digit, digits, decimal_from, well_written, number, field, read_fields, field_count, line_of, read_line, lines_in, lines}
use Rattle.causes.specs.Tests.{first_refusal}
use Rattle.model.specs.Load.{header_in_range, gate_in_range, entry_in_range, in_order, rising, header_tests, line_tests, judge_m, judge_header, judge, judge_text, cleared, fill, load}
use Rattle.model.specs.Listing.{decimal_in, decimal, fields, line, head_lines, is_listed, entry_line, entry_lines}
use Rattle.model.specs.Program.{from_text, state_of_load}
use Rattle.model.specs.Seen.{within, exists, Seen, hidden, shown, seen_by, seen_at, SeenControl, unseen, seen, seen_control, LowEquivalent, SameSetting}
use Rattle.noninterference.specs.Noninterference.{Invocation, lend, regain, answered, after, run_states, work_states, call_states, trace, final, at_tick, reached, downgrades, gate_calls_in, timed_from_outside, StepsProvisos, Provisos}
use Rattle.witnesses.specs.Witness.{each, each_location, same_seen, same_pair, same_call, same_control, same_seen_control, same_sight, low_equivalent, no_downgrade, no_gate_in, timed_within, up_to, provisos, provisos_hold, qualifies, text_of, Loads, Counterexample, fixed_of, usual, interrupted, one_run, left, right, left_at, right_at, main_table, downgrading, calling_gate, timed_by_secret, under, nothing_there, gate_called, unbroken_table, reached_table}
use Rattle.model.specs.Facts.{every}
use Rattle.model.proofs.Facts.{stepping}
use Rattle.model.proofs.Truth.{either, clash, and_iff, not_iff}
use Rattle.noninterference.proofs.Noninterference.{noninterference}

-- ---- what passes for each

-- A test that passes for each number below n passes for a number below n.
pub each_at : (n : ℕ) (f : ℕ → Bool) → each n f ≡ true → (k : ℕ) → k < n → f k ≡ true
each_at zero f e k h = absurd (omega arith)
each_at (suc n) f e k h =
    let p = (and_iff (f n) (each n f)).0 e in
    ⊎_elim
    (λ (q : eqb k n ≡ true). subst (λ (m : ℕ). f m ≡ true) (sym (eqb-true k n q)) p.0)
    (λ (q : eqb k n ≡ false). let d = eqb-false k n q in each_at n f p.1 k (omega arith))
    (either (eqb k n))

-- A test that passes for every number passes for each below n.
each_all : (n : ℕ) (f : ℕ → Bool) → ((k : ℕ) → f k ≡ true) → each n f ≡ true
each_all zero f h = refl
each_all (suc n) f h = (and_iff (f n) (each n f)).1 (h n, each_all n f h)

-- A test that passes for the registers and the words below n passes for every location of a state of size at most n.
location_at : (n : ℕ) (f : Location → Bool) → each_location n f ≡ true → (s : State) → s.fixed.size ≤ n → (x : Location)
    → exists s x ≡ true → f x ≡ true
unfolding exists
location_at n f e s h (register k) i =
    each_at 16 (λ k. f (register k)) ((and_iff (each 16 (λ k. f (register k))) (each n (λ k. f (word k)))).0 e).0 k (ltb-true k 16 i)
location_at n f e s h (word k) i =
    each_at n (λ k. f (word k)) ((and_iff (each 16 (λ k. f (register k))) (each n (λ k. f (word k)))).0 e).1 k
    (omega (arith, ltb-true k s.fixed.size i))

-- ---- settings

-- States of one fixed part have one setting.
pub setting : (s t : State) → s.fixed ≡ t.fixed → SameSetting s t
setting s t e =
    record {
      size = ap (λ f. f.size) e;
      limit = ap (λ f. f.limit) e;
      errorpc = ap (λ f. f.errorpc) e;
      count = ap (λ f. f.count) e;
      gates = λ k h. ap (λ f. get_or f.gates k no_gate) e;
    }

-- ---- alike

-- Each test of sameness passes where the two are one.
pair_self : (q : Pair) → same_pair q q ≡ true
unfolding same_pair
pair_self q = rw (eq-eqb q.pc q.pc refl, eq-eqb q.timing q.timing refl)

call_self : (x : Call) → same_call x x ≡ true
unfolding same_call
call_self Empty = refl
call_self (Gate k q) = rw (eq-eqb k k refl, pair_self q)
call_self (Upcall k q e) = rw (eq-eqb k k refl, pair_self q, eq-eqb e e refl)

seen_self : (x : Seen) → same_seen x x ≡ true
unfolding same_seen
seen_self hidden = refl
seen_self (shown l v) = rw (eq-eqb l l refl, eq-eqb v v refl)

control_self : (x : SeenControl) → same_seen_control x x ≡ true
unfolding same_seen_control same_control
control_self unseen = refl
control_self (seen c) =
    rw (eq-eqb c.pc c.pc refl, pair_self c.pair, eq-eqb c.clock c.clock refl, call_self c.first, call_self c.second, eq-eqb c.end c.end refl, eq-eqb c.why c.why refl)

-- Where it passes the two are one.
pub pair_one : (q r : Pair) → same_pair q r ≡ true → q ≡ r
unfolding same_pair
pair_one q r e =
    let h = simp and_iff at e in
    let a = eqb-true _ _ h.0 in
    let b = eqb-true _ _ h.1 in λ i. record { pc = a i; timing = b i }

pub call_one : (x y : Call) → same_call x y ≡ true → x ≡ y
unfolding same_call
call_one Empty Empty e = refl
call_one Empty (Gate k q) e = clash e refl
call_one Empty (Upcall k q t) e = clash e refl
call_one (Gate k q) Empty e = clash e refl
call_one (Gate k q) (Gate k' q') e = let h = simp and_iff at e in ap₂ Gate (eqb-true _ _ h.0) (pair_one q q' h.1)
call_one (Gate k q) (Upcall k' q' t') e = clash e refl
call_one (Upcall k q t) Empty e = clash e refl
call_one (Upcall k q t) (Gate k' q') e = clash e refl
call_one (Upcall k q t) (Upcall k' q' t') e =
    let h = simp and_iff at e in
    let a = eqb-true _ _ h.0.0 in
    let b = pair_one q q' h.0.1 in
    let c = eqb-true _ _ h.1 in λ i. Upcall (a i) (b i) (c i)

seen_one : (x y : Seen) → same_seen x y ≡ true → x ≡ y
unfolding same_seen
seen_one hidden hidden e = refl
seen_one hidden (shown l v) e = clash e refl
seen_one (shown l v) hidden e = clash e refl
seen_one (shown l v) (shown m w) e = let h = simp and_iff at e in ap₂ shown (eqb-true _ _ h.0) (eqb-true _ _ h.1)

control_one : (x y : SeenControl) → same_seen_control x y ≡ true → x ≡ y
unfolding same_seen_control same_control
control_one unseen unseen e = refl
control_one unseen (seen c) e = clash e refl
control_one (seen c) unseen e = clash e refl
control_one (seen c) (seen d) e =
    let h = simp and_iff at e in
    let pc = eqb-true _ _ h.0.0.0.0.0.0 in
    let pair = pair_one _ _ h.0.0.0.0.0.1 in
    let clock = eqb-true _ _ h.0.0.0.0.1 in
    let first = call_one _ _ h.0.0.0.1 in
    let second = call_one _ _ h.0.0.1 in
    let end = eqb-true _ _ h.0.1 in
    let why = eqb-true _ _ h.1 in
    λ i. seen (record { pc = pc i; pair = pair i; clock = clock i; first = first i; second = second i; end = end i; why = why i })

-- A location that exists in neither state looks the same in both.
nowhere : (sees : ℕ → Bool) (s t : State) (x : Location) → exists s x ≡ false → exists t x ≡ false → seen_by sees s x ≡ seen_by sees t x
unfolding seen_by
nowhere sees s t x e f = rw (e, f)

-- States of which the same is tested to be seen show the same.
pub sight : (sees : ℕ → Bool) (s t : State) → same_sight sees s t ≡ true → (x : Location) → seen_by sees s x ≡ seen_by sees t x
unfolding same_sight
sight sees s t e x =
    let n = max s.fixed.size t.fixed.size in
    let f : Location → Bool = λ x. same_seen (seen_by sees s x) (seen_by sees t x) in
    ⊎_elim
    (λ (i : exists s x ≡ true). seen_one _ _ (location_at n f e s (omega arith) x i))
    (λ (i : exists s x ≡ false).
    ⊎_elim
    (λ (j : exists t x ≡ true). seen_one _ _ (location_at n f e t (omega arith) x j))
    (λ (j : exists t x ≡ false). nowhere sees s t x i j)
    (either (exists t x)))
    (either (exists s x))

-- States that are tested to be low-equivalent are.
pub low : (ℓ : ℕ) (s t : State) → low_equivalent ℓ s t ≡ true → LowEquivalent ℓ s t
low ℓ s t e =
    let h = (and_iff (same_sight (within ℓ) s t) _).0 e in
    record { locations = sight (within ℓ) s t h.0; control = control_one _ _ h.1 }

-- States that fail the test are not.
pub apart : (ℓ : ℕ) (s t : State) → low_equivalent ℓ s t ≡ false → LowEquivalent ℓ s t → ⊥
unfolding same_sight
apart ℓ s t e h =
    let f : Location → Bool = λ x. same_seen (seen_at ℓ s x) (seen_at ℓ t x) in
    let g : (x : Location) → f x ≡ true = λ x. subst (λ (y : Seen). same_seen (seen_at ℓ s x) y ≡ true) (h.locations x) (seen_self _) in
    clash
    ((and_iff _ _).1 (
      (and_iff _ _).1 (each_all 16 (λ k. f (register k)) (λ k. g (register k)), each_all (max s.fixed.size t.fixed.size) (λ k. f (word k)) (λ k. g (word k))),
      subst (λ (y : SeenControl). same_seen_control (seen_control ℓ s) y ≡ true) h.control (control_self _),
    ))
    e

-- ---- the provisos

-- A step that is tested to downgrade nothing does not.
no_downgrade_lem : (ℓ : ℕ) (s t : State) → each_location s.fixed.size (λ x. not (downgrades ℓ s t x)) ≡ true → (x : Location)
    → downgrades ℓ s t x ≡ false
unfolding downgrades
no_downgrade_lem ℓ s t e x =
    ⊎_elim
    (λ (i : exists s x ≡ true). (not_iff _).0 (location_at s.fixed.size (λ x. not (downgrades ℓ s t x)) e s (omega arith) x i))
    (λ (i : exists s x ≡ false). rw i)
    (either (exists s x))

-- Of what is tested up to k, the first step and the others.
up_to_first : (k : ℕ) (f : State → State → Bool) (s x : State) (xs : List State) → up_to k f s (x ∷ xs) ≡ true
    → x.control.clock ≤ k → f s x ≡ true
up_to_first k f s x xs e h =
    rw (le-leb x.control.clock k h) at ((and_iff (not (leb x.control.clock k) || f s x) (up_to k f x xs)).0 e).0

up_to_rest : (k : ℕ) (f : State → State → Bool) (s x : State) (xs : List State) → up_to k f s (x ∷ xs) ≡ true
    → up_to k f x xs ≡ true
up_to_rest k f s x xs e = ((and_iff (not (leb x.control.clock k) || f s x) (up_to k f x xs)).0 e).1

-- A trace whose steps are tested to meet the provisos meets them.
steps_meet : (ℓ k : ℕ) (s : State) (xs : List State) → up_to k (no_downgrade ℓ) s xs ≡ true → up_to k (no_gate_in ℓ) s xs ≡ true
    → up_to k (timed_within ℓ) s xs ≡ true → StepsProvisos ℓ k s xs
unfolding StepsProvisos
steps_meet ℓ k s [] d g t = tt
steps_meet ℓ k s (x ∷ xs) d g t = (
  (λ h. record {
    downgrade = no_downgrade_lem ℓ s x (up_to_first k (no_downgrade ℓ) s x xs d h);
    gate = (not_iff _).0 (up_to_first k (no_gate_in ℓ) s x xs g h);
    timing = (not_iff _).0 (up_to_first k (timed_within ℓ) s x xs t h);
  }),
  steps_meet ℓ k x xs (up_to_rest k (no_downgrade ℓ) s x xs d) (up_to_rest k (no_gate_in ℓ) s x xs g) (up_to_rest k (timed_within ℓ) s x xs t),
)

-- A trace that is tested to meet the provisos meets them.
pub meets : (ℓ k : ℕ) (s : State) (xs : List State) → provisos_hold ℓ k s xs ≡ true → Provisos ℓ k s xs
meets ℓ k s xs e =
    let h = simp and_iff at e in
    record {
      loaded = (not_iff _).0 h.1.1.0.0;
      steps = steps_meet ℓ k s xs h.0 h.1.0 h.1.1.0.1;
    }

-- ---- the theorem applied to what the tests say

-- From the texts of two states: the third demand, of the states.
from_texts : (ℓ k : ℕ) (s t : State) → Loads s → Loads t → SameSetting s t → LowEquivalent ℓ s t → (qs rs : List Invocation)
    → Provisos ℓ k s (trace qs s) → Provisos ℓ k t (trace rs t) → reached k s (trace qs s) ≡ true
    → reached k t (trace rs t) ≡ true → LowEquivalent ℓ (at_tick k s (trace qs s)) (at_tick k t (trace rs t))
from_texts ℓ k s t l m =
    subst₂
    (λ (x y : State).
    SameSetting x y → LowEquivalent ℓ x y → (qs rs : List Invocation) → Provisos ℓ k x (trace qs x) → Provisos ℓ k y (trace rs y)
    → reached k x (trace qs x) ≡ true → reached k y (trace rs y) ≡ true
    → LowEquivalent ℓ (at_tick k x (trace qs x)) (at_tick k y (trace rs y)))
    (ap state_of_load l) (ap state_of_load m)
    (noninterference ℓ k (from_text (text_of s)) (from_text (text_of t)) s.memory t.memory (ap (λ a. a.outcome) l) (ap (λ a. a.outcome) m))

-- Two machines of one fixed part that load, start alike and qualify are alike at k.
pub alike_at : (ℓ k : ℕ) (s t : State) (qs rs : List Invocation) → Loads s → Loads t → s.fixed ≡ t.fixed
    → low_equivalent ℓ s t ≡ true → qualifies ℓ k s qs ≡ true → qualifies ℓ k t rs ≡ true
    → LowEquivalent ℓ (at_tick k s (trace qs s)) (at_tick k t (trace rs t))
alike_at ℓ k s t qs rs l m f e g h =
    let a = (and_iff _ (reached k s (trace qs s))).0 g in
    let b = (and_iff _ (reached k t (trace rs t))).0 h in
    from_texts ℓ k s t l m (setting s t f) (low ℓ s t e) qs rs
    (meets ℓ k s (trace qs s) a.0) (meets ℓ k t (trace rs t) b.0) a.1 b.1

-- Two machines that load, start alike and reach k, and are not alike there.
pub counterexample : (ℓ k : ℕ) (s t : State) (qs : List Invocation) (met : List Bool) → Loads s → Loads t
    → every (low_equivalent ℓ s t ∷ reached k s (trace qs s) ∷ reached k t (trace qs t) ∷ not (low_equivalent ℓ (at_tick k s (trace qs s)) (at_tick k t (trace qs t))) ∷ []) ≡ true
    → provisos ℓ k s (trace qs s) ≡ met → provisos ℓ k t (trace qs t) ≡ met → Counterexample ℓ k s t qs met
counterexample ℓ k s t qs met l m e p q =
    let c = (and_iff (low_equivalent ℓ s t) _).0 e in
    let d = (and_iff (reached k s (trace qs s)) _).0 c.1 in
    let g = (and_iff (reached k t (trace qs t)) _).0 d.1 in
    let h = (and_iff (not (low_equivalent ℓ (at_tick k s (trace qs s)) (at_tick k t (trace qs t)))) true).0 g.1 in
    record {
      loads_one = l;
      loads_two = m;
      low = low ℓ s t c.0;
      met_one = p;
      met_two = q;
      reached_one = d.0;
      reached_two = g.0;
      apart = apart ℓ _ _ ((not_iff _).0 h.0);
    }

-- ---- the tables

-- All that a table computes with, beyond a step. Who says `unfolding computing` opens each of them.
unfoldable pub computing : Bool
unfolding stepping highest answer within exists seen_by seen_control lend regain answered after run_states work_states call_states trace final at_tick reached downgrades gate_calls_in timed_from_outside same_seen same_sight same_pair same_call same_control same_seen_control is_digit digits decimal_from well_written number field read_fields field_count line_of read_line lines_in lines header_in_range gate_in_range entry_in_range in_order rising header_tests line_tests first_refusal judge_m judge_header judge judge_text cleared fill load decimal_in decimal fields line head_lines is_listed entry_line entry_lines
computing = true

-- The two machines of the main witness differ as their table says, at a sound label and at one that isn't.
pub main_holds : every main_table ≡ true
unfolding computing
main_holds = refl

-- The theorem, applied to them: in the upcall, where they differ, and at the last tick.
pub witness_away : LowEquivalent 240 (left_at 240 5) (right_at 240 5)
unfolding computing
witness_away = alike_at 240 5 (left 240) (right 240) interrupted one_run refl refl refl refl refl refl

pub witness_last : LowEquivalent 240 (left_at 240 14) (right_at 240 14)
unfolding computing
witness_last = alike_at 240 14 (left 240) (right 240) interrupted one_run refl refl refl refl refl refl

pub witness_away_unsound : LowEquivalent 18 (left_at 18 5) (right_at 18 5)
unfolding computing
witness_away_unsound = alike_at 18 5 (left 18) (right 18) interrupted one_run refl refl refl refl refl refl

pub witness_last_unsound : LowEquivalent 18 (left_at 18 14) (right_at 18 14)
unfolding computing
witness_last_unsound = alike_at 18 14 (left 18) (right 18) interrupted one_run refl refl refl refl refl refl

-- Without the first proviso, the second, the third, the theorem would be false.
pub downgrade_needed : SameSetting (downgrading 0) (downgrading 1) × Counterexample 240 2 (downgrading 0) (downgrading 1) one_run (false ∷ true ∷ true ∷ [])
unfolding computing
downgrade_needed = (setting (downgrading 0) (downgrading 1) refl, counterexample 240 2 (downgrading 0) (downgrading 1) one_run _ refl refl refl refl refl)

pub gate_needed : SameSetting (calling_gate 0) (calling_gate 1) × Counterexample 240 4 (calling_gate 0) (calling_gate 1) one_run (true ∷ false ∷ true ∷ [])
unfolding computing
gate_needed = (setting (calling_gate 0) (calling_gate 1) refl, counterexample 240 4 (calling_gate 0) (calling_gate 1) one_run _ refl refl refl refl refl)

pub timing_needed : SameSetting (timed_by_secret 0) (timed_by_secret (2 ^ 31)) × Counterexample 240 5 (timed_by_secret 0) (timed_by_secret (2 ^ 31)) one_run (true ∷ true ∷ false ∷ [])
unfolding computing
timing_needed = (setting (timed_by_secret 0) (timed_by_secret (2 ^ 31)) refl, counterexample 240 5 (timed_by_secret 0) (timed_by_secret (2 ^ 31)) one_run _ refl refl refl refl refl)

-- Nor without equal size, limit, error pc, number of gates, gates: the two machines differ in that alone.
pub size_needed : Counterexample 240 1 (under usual nothing_there) (under (fixed_of 11 60 11 3 2) nothing_there) one_run (true ∷ true ∷ true ∷ [])
unfolding computing
size_needed = counterexample 240 1 (under usual nothing_there) (under (fixed_of 11 60 11 3 2) nothing_there) one_run _ refl refl refl refl refl

pub limit_needed : Counterexample 240 1 (under usual nothing_there) (under (fixed_of 12 1 11 3 2) nothing_there) one_run (true ∷ true ∷ true ∷ [])
unfolding computing
limit_needed = counterexample 240 1 (under usual nothing_there) (under (fixed_of 12 1 11 3 2) nothing_there) one_run _ refl refl refl refl refl

pub errorpc_needed : Counterexample 240 1 (under usual nothing_there) (under (fixed_of 12 60 10 3 2) nothing_there) one_run (true ∷ true ∷ true ∷ [])
unfolding computing
errorpc_needed = counterexample 240 1 (under usual nothing_there) (under (fixed_of 12 60 10 3 2) nothing_there) one_run _ refl refl refl refl refl

pub count_needed : Counterexample 240 4 (under usual gate_called) (under (fixed_of 12 60 11 0 2) gate_called) one_run (true ∷ true ∷ true ∷ [])
unfolding computing
count_needed = counterexample 240 4 (under usual gate_called) (under (fixed_of 12 60 11 0 2) gate_called) one_run _ refl refl refl refl refl

pub gates_needed : Counterexample 240 4 (under usual gate_called) (under (fixed_of 12 60 11 3 3) gate_called) one_run (true ∷ true ∷ true ∷ [])
unfolding computing
gates_needed = counterexample 240 4 (under usual gate_called) (under (fixed_of 12 60 11 3 3) gate_called) one_run _ refl refl refl refl refl

-- What breaks no proviso.
pub unbroken_hold : every unbroken_table ≡ true
unfolding computing
unbroken_hold = refl

-- Every tick after an end is reached.
pub ended_reached : (k : ℕ) (s : State) (xs : List State) → running (final s xs) ≡ false → reached k s xs ≡ true
unfolding reached
ended_reached k s xs e =
    let above = ltb k (final s xs).control.clock in ap (λ (b : Bool). above || not b) e ∙ or-true above

-- What is reached.
pub reached_hold : every reached_table ≡ true
unfolding computing
reached_hold = refl
