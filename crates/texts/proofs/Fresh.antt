-- What the lent memory held before a firing or a view does not show: into any two memories of the same lengths an image
-- gives one reply. So a file that is fired again, or after another, prints what it prints in a fresh memory.
-- Assumes nothing.
use Prim.Native.Nat.{ℕ, zero, suc, ◌+◌, ◌-◌, ◌<◌, ◌≤◌}
use mathlib.Core.Path.{◌≡◌, refl, ap, ◌∙◌, sym, subst}
use mathlib.Core.Logic.{⊎_elim}
use mathlib.Core.Bool.{true, false, cond}
use mathlib.Core.List.{List, [], ◌∷◌, ◌++◌}
use native.Mathlib.Nat.{lt_of_lt_of_le}
use native.Mathlib.Omega.{arith}
use lib.Dec.{leb, ltb}
use lib.ListN.{length, drop, get_or, replicate, length-set, length-append, length-replicate, get_or-append}
use borrow.Author.Tests.{ltb-true}
use Rattle.labels.specs.Label.{label_count, lowest, highest}
use Rattle.causes.specs.declared.Cause.{Cause}
use Rattle.causes.specs.Causes.{Done, is_done}
use Rattle.causes.proofs.Numbers.{is_done_lem}
use Rattle.model.specs.declared.Control.{Control}
use Rattle.model.specs.Record.{Bank, Machine, State, Location, register, word, value_at, label_at, machine_of, state_of}
use Rattle.model.specs.Word.{Op, immediate, arithmetic, load as load_word, store, branch, jump, read_clock, set_label, set_pair, upcall, end_upcall, gate_call, gate_return, halt}
use Rattle.model.specs.Ops.{Write, nothing, value, label, new_pair_allowed, may_upcall, may_call_gate, may_return, Rb, table}
use Rattle.model.specs.Step.{Fetched, failed, fetched, fetch, Decision, rest, spend, stall, close, carry, end_tick, finish, fault, attempt, in_time, plan, beyond_limit, in_limit, running, decide, written, cause_allowed, cause_write, write_of, control_after, with_control, apply, step, steps, run, finishes_by, step_by, steps_by, run_to}
use Rattle.model.specs.Seen.{exists, seen_by, seen_at, seen_control, LowEquivalent}
use Rattle.model.specs.Listing.{listing_for, listing}
use Rattle.model.specs.declared.format.Line.{Line}
use Rattle.model.specs.declared.format.Line.TheVariants.{M, G, R, W, Malformed}
use Rattle.model.specs.declared.judging.Header.{Header}
use Rattle.model.specs.WellFormed.{lent_whole}
use Rattle.model.specs.Text.{read_line}
use Rattle.model.specs.Hex.{records}
use Rattle.model.specs.Load.{with_entry, header_tests, Verdict, refuse, accept, judge_m, judge_first, judge_header, lines_behind, judge_text, cleared, with_word, fill, Loading, refusal, settle, load}
use Rattle.model.specs.HexLoad.{judge_alone, no_bytes, judge_records, word_at, word_label, firsts, placed, settle_records, settle_hex, load_hex}
use Rattle.model.specs.Program.{state_of_load, reply}
use Rattle.model.specs.View.{look, view_reply}
use Rattle.model.proofs.Truth.{either, and_iff}
use Rattle.model.proofs.Writes.{set_at, written_fixed}
use Rattle.model.proofs.Legal.{LegalWrite, keeps, sets, marks}
use Rattle.model.proofs.Ready.{Ready}
use Rattle.model.proofs.Step.{step_write, step_ready}
use Rattle.model.proofs.HexLoad.{length_firsts}
use Rattle.model.proofs.Program.{ReadyLoad, load_ready, hex_ready}
use Rattle.model.proofs.View.{same_listing}
use Rattle.texts.proofs.Ranges.{entry_range}
use Rattle.texts.specs.Inner.Storable.{is_storable, storable}
use Rattle.texts.proofs.Storable.{text_storable}

-- Two memories agree below the size.
record Agree (size : ℕ) (m n : Bank) : Type 0 where
  values : (k : ℕ) → k < size → get_or m.values k 0 ≡ get_or n.values k 0
  labels : (k : ℕ) → k < size → get_or m.labels k 0 ≡ get_or n.labels k 0

-- ---- a step of one record over two memories that agree

module _ (r : Machine) (m n : Bank) (a : Agree r.fixed.size m n) where
  abbrev one : State
  one = state_of r m

  abbrev two : State
  two = state_of r n

  -- The fetch reads below the size.
  fetch_same : fetch one ≡ fetch two
  unfolding fetch value_at label_at
  fetch_same =
      ⊎_elim
      (λ (e : ltb r.control.pc r.fixed.size ≡ true).
      let h = ltb-true _ _ e in rw (a.values r.control.pc h, a.labels r.control.pc h))
      (λ (e : ltb r.control.pc r.fixed.size ≡ false). rw e)
      (either (ltb r.control.pc r.fixed.size))

  -- So do the ops: 9 and 10 are the ones that read a word.
  attempt_same : (w : ℕ) (op : Op) → attempt one (table one w op) ≡ attempt two (table two w op)
  unfolding attempt table new_pair_allowed may_upcall may_call_gate may_return value_at label_at
  attempt_same w immediate = refl
  attempt_same w (arithmetic f) = refl
  attempt_same w load_word =
      ⊎_elim
      (λ (e : ltb (Rb one w) r.fixed.size ≡ true).
      let h = ltb-true _ _ e in rw (a.values (Rb one w) h, a.labels (Rb one w) h))
      (λ (e : ltb (Rb one w) r.fixed.size ≡ false). rw e)
      (either (ltb (Rb one w) r.fixed.size))
  attempt_same w store =
      ⊎_elim
      (λ (e : ltb (Rb one w) r.fixed.size ≡ true). rw (a.labels (Rb one w) (ltb-true _ _ e)))
      (λ (e : ltb (Rb one w) r.fixed.size ≡ false). rw e)
      (either (ltb (Rb one w) r.fixed.size))
  attempt_same w (branch f) = refl
  attempt_same w jump = refl
  attempt_same w read_clock = refl
  attempt_same w (set_label f) = refl
  attempt_same w set_pair = refl
  attempt_same w upcall = refl
  attempt_same w end_upcall = refl
  attempt_same w gate_call = refl
  attempt_same w gate_return = refl
  attempt_same w halt = refl

  -- The rest of a decision reads the record alone.
  time_same : (d : Decision) → in_time one d ≡ in_time two d
  unfolding end_tick
  time_same rest = refl
  time_same spend = refl
  time_same (stall why) = refl
  time_same (close cause) = refl
  time_same (carry ticks c) = refl

  plan_same : (f : Fetched) → plan one f ≡ plan two f
  unfolding fault
  plan_same (failed why) = refl
  plan_same (fetched w op) = ap (in_time one) (attempt_same w op) ∙ time_same (attempt two (table two w op))

  limit_same : (d : Decision) → in_limit one d ≡ in_limit two d
  unfolding in_limit beyond_limit finish end_tick
  limit_same rest = refl
  limit_same spend = refl
  limit_same (stall why) = refl
  limit_same (close cause) = refl
  limit_same (carry ticks c) = refl

  decide_same : decide one ≡ decide two
  unfolding decide running
  decide_same =
      ap (λ (d : Decision). cond (running one) d rest)
      (ap (in_limit one) (ap (plan one) fetch_same ∙ plan_same (fetch two)) ∙ limit_same (plan two (fetch two)))

  -- So it finishes at one tick.
  tick_same : (d : Decision) → finish one d ≡ finish two d
  unfolding finish end_tick
  tick_same rest = refl
  tick_same spend = refl
  tick_same (stall why) = refl
  tick_same (close cause) = refl
  tick_same (carry ticks c) = refl

  finish_same : finish one (decide one) ≡ finish two (decide two)
  finish_same = ap (finish one) decide_same ∙ tick_same (decide two)

  -- What it writes, and where it leaves the control.
  write_same : (d : Decision) → write_of one d ≡ write_of two d
  unfolding write_of cause_write cause_allowed label_at
  write_same rest = refl
  write_same spend = refl
  write_same (stall why) = refl
  write_same (close cause) = refl
  write_same (carry ticks c) = refl

  control_same : (d : Decision) → control_after one d ≡ control_after two d
  unfolding control_after end_tick
  control_same rest = refl
  control_same spend = refl
  control_same (stall why) = refl
  control_same (close cause) = refl
  control_same (carry ticks c) = refl

  -- A write leaves one record and two memories that agree.
  written_same : (w : Write) → machine_of (written one w) ≡ machine_of (written two w)
  unfolding written
  written_same nothing = refl
  written_same (value (register k) v) = refl
  written_same (value (word k) v) = refl
  written_same (label (register k) l) = refl
  written_same (label (word k) l) = refl

  written_agree : r.fixed.size ≤ length m.values → r.fixed.size ≤ length m.labels
      → r.fixed.size ≤ length n.values → r.fixed.size ≤ length n.labels → {w : Write} → LegalWrite one w
      → Agree r.fixed.size (written one w).memory (written two w).memory
  unfolding written
  written_agree x y z u keeps = a
  written_agree x y z u (sets {x = register k} h o p lt) = a
  written_agree x y z u (sets {x = word k} {v = v} h o p lt) =
      record {
        values = λ j g.
            rw (set_at 0 m.values k j v (lt_of_lt_of_le h x), set_at 0 n.values k j v (lt_of_lt_of_le h z), a.values j g);
        labels = a.labels;
      }
  written_agree x y z u (marks {x = register k} h o p l lt) = a
  written_agree x y z u (marks {x = word k} {l = l} h o p q lt) =
      record {
        values = a.values;
        labels = λ j g.
            rw (set_at 0 m.labels k j l (lt_of_lt_of_le h y), set_at 0 n.labels k j l (lt_of_lt_of_le h u), a.labels j g);
      }

-- ---- a run

-- Two states alike: one record, and memories that agree.
record Alike (s t : State) : Type 0 where
  machine : machine_of s ≡ machine_of t
  memory : Agree s.fixed.size s.memory t.memory

-- One write and one control.
write_both : (r : Machine) (m n : Bank) → Agree r.fixed.size m n → Ready (state_of r m) → Ready (state_of r n)
    → {w : Write} → LegalWrite (state_of r m) w → (c : Control)
    → Alike (with_control (written (state_of r m) w) c) (with_control (written (state_of r n) w) c)
write_both r m n a x y {w} h c =
    record {
      machine = ap (λ (z : Machine). record { fixed = z.fixed; control = c; registers = z.registers }) (written_same r m n a w);
      memory =
          rw (written_fixed (state_of r m) w)
          (written_agree r m n a x.words x.labels y.words y.labels h);
    }

-- A step of one record over two memories.
step_both : (r : Machine) (m n : Bank) → Agree r.fixed.size m n → Ready (state_of r m) → Ready (state_of r n)
    → Alike (step (state_of r m)) (step (state_of r n))
unfolding step apply
step_both r m n a x y =
    let s = state_of r m in
    let t = state_of r n in
    let d = decide_same r m n a in
    let w = write_of s (decide s) in
    let c = control_after s (decide s) in
    subst (λ (z : Control). Alike (with_control (written s w) c) (with_control (written t (write_of t (decide t))) z))
    (ap (control_after s) d ∙ control_same r m n a (decide t))
    (subst (λ (z : Write). Alike (with_control (written s w) c) (with_control (written t z) c))
    (ap (write_of s) d ∙ write_same r m n a (decide t))
    (write_both r m n a x y (step_write s x) c))

-- Alike states step to alike states.
step_alike : (s t : State) → Alike s t → Ready s → Ready t → Alike (step s) (step t)
step_alike s t h x y =
    let q : state_of (machine_of s) t.memory ≡ t = ap (λ (r : Machine). state_of r t.memory) h.machine in
    subst (λ (u : State). Ready u → Alike (step s) (step u)) q
    (step_both (machine_of s) s.memory t.memory h.memory x) y

steps_alike : (k : ℕ) (s t : State) → Alike s t → Ready s → Ready t → Alike (steps k s) (steps k t)
unfolding steps
steps_alike zero s t h x y = h
steps_alike (suc k) s t h x y =
    steps_alike k (step s) (step t) (step_alike s t h x y) (step_ready s x) (step_ready t y)

run_alike : (s t : State) → Alike s t → Ready s → Ready t → Alike (run s) (run t)
unfolding run
run_alike s t h x y =
    let k : ℕ = s.fixed.limit - s.control.clock + 1 in
    let e = ap (λ (r : Machine). r.fixed.limit - r.control.clock + 1) h.machine in
    subst (λ (i : ℕ). Alike (steps k s) (steps i t)) e (steps_alike k s t h x y)

-- ---- a run to a tick

-- The steps of alike states finish by a tick or don't, both.
timely_alike : (k : ℕ) (s t : State) → Alike s t → finishes_by k s ≡ finishes_by k t
unfolding finishes_by
timely_alike k s t h =
    ap (λ (i : ℕ). leb i k) (finish_same (machine_of s) s.memory t.memory h.memory)
    ∙ ap (λ (r : Machine). finishes_by k (state_of r t.memory)) h.machine

steps_by_alike : (k n : ℕ) (s t : State) → Alike s t → Ready s → Ready t → Alike (steps_by k n s) (steps_by k n t)
unfolding steps_by step_by
steps_by_alike k zero s t h x y = h
steps_by_alike k (suc n) s t h x y =
    ⊎_elim
    (λ (e : finishes_by k s ≡ true).
    rw (e, sym (timely_alike k s t h) ∙ e)
    (steps_by_alike k n (step s) (step t) (step_alike s t h x y) (step_ready s x) (step_ready t y)))
    (λ (e : finishes_by k s ≡ false). rw (e, sym (timely_alike k s t h) ∙ e) (steps_by_alike k n s t h x y))
    (either (finishes_by k s))

run_to_alike : (k : ℕ) (s t : State) → Alike s t → Ready s → Ready t → Alike (run_to k s) (run_to k t)
unfolding run_to
run_to_alike k s t h x y =
    let n : ℕ = s.fixed.limit - s.control.clock + 1 in
    let e = ap (λ (r : Machine). r.fixed.limit - r.control.clock + 1) h.machine in
    subst (λ (i : ℕ). Alike (steps_by k n s) (steps_by k i t)) e (steps_by_alike k n s t h x y)

-- ---- the listing

-- Every label sees the same of both: of memory only what lies below the size.
sight_both : (ℓ : ℕ) (r : Machine) (m n : Bank) → Agree r.fixed.size m n → LowEquivalent ℓ (state_of r m) (state_of r n)
unfolding seen_by exists value_at label_at seen_control
sight_both ℓ r m n a = record { locations = at_location; control = refl }
  where
    at_location : (x : Location) → seen_at ℓ (state_of r m) x ≡ seen_at ℓ (state_of r n) x
    at_location (register k) = refl
    at_location (word k) =
        ⊎_elim
        (λ (e : ltb k r.fixed.size ≡ true). let h = ltb-true _ _ e in rw (a.values k h, a.labels k h))
        (λ (e : ltb k r.fixed.size ≡ false). rw e)
        (either (ltb k r.fixed.size))

listing_alike : (ℓ : ℕ) (s t : State) → Alike s t → listing_for ℓ s ≡ listing_for ℓ t
listing_alike ℓ s t h =
    same_listing ℓ s (state_of (machine_of s) t.memory) (sight_both ℓ (machine_of s) s.memory t.memory h.memory)
    ∙ ap (λ (r : Machine). listing_for ℓ (state_of r t.memory)) h.machine

-- ---- a load

-- What a text gives in two memories: one outcome, line and record, and memories that agree below its size.
record LoadAlike (a b : Loading) : Type 0 where
  outcome : a.outcome ≡ b.outcome
  line : a.line ≡ b.line
  machine : a.machine ≡ b.machine
  memory : Agree a.machine.fixed.size a.memory b.memory

-- Cleared memory.
blank_same : (size v : ℕ) (xs ys : List ℕ) (k : ℕ) → k < size
    → get_or (replicate size v ++ drop size xs) k 0 ≡ get_or (replicate size v ++ drop size ys) k 0
blank_same size v xs ys k h =
    let i : k < length (replicate size v) = rw (length-replicate {A = ℕ} size v) h in
    get_or-append (replicate size v) (drop size xs) 0 k i ∙ sym (get_or-append (replicate size v) (drop size ys) 0 k i)

blank_long : (size v : ℕ) (xs : List ℕ) → size ≤ length (replicate size v ++ drop size xs)
blank_long size v xs = rw (length-append (replicate size v) (drop size xs), length-replicate size v) (omega arith)

-- Memory of at least the size.
record Long (size : ℕ) (m : Bank) : Type 0 where
  values : size ≤ length m.values
  labels : size ≤ length m.labels

-- The words of the lines.
entry_long : {size : ℕ} {m : Bank} (k l v : ℕ) → Long size m → Long size (with_entry m k l v)
entry_long {size} {m} k l v h =
    record { values = rw (length-set m.values k v) h.values; labels = rw (length-set m.labels k l) h.labels }

line_agree : (size : ℕ) (l : Line) (m n : Bank) → is_storable size l ≡ true → Long size m → Long size n → Agree size m n
    → Agree size (with_word m l) (with_word n l)
line_agree size (M b c d f g i) m n e x y a = a
line_agree size (G pc p t) m n e x y a = a
line_agree size (R k l v) m n e x y a = a
line_agree size (W k l v) m n e x y a =
    let h = (entry_range size k l v e).below in
    record {
      values = λ j g.
          rw (
            set_at 0 m.values k j v (lt_of_lt_of_le h x.values),
            set_at 0 n.values k j v (lt_of_lt_of_le h y.values),
            a.values j g,
          );
      labels = λ j g.
          rw (
            set_at 0 m.labels k j l (lt_of_lt_of_le h x.labels),
            set_at 0 n.labels k j l (lt_of_lt_of_le h y.labels),
            a.labels j g,
          );
    }
line_agree size Malformed m n e x y a = a

line_long : {size : ℕ} {m : Bank} (l : Line) → Long size m → Long size (with_word m l)
line_long (M b c d f g i) h = h
line_long (G pc p t) h = h
line_long (R k l v) h = h
line_long (W k l v) h = entry_long k l v h
line_long Malformed h = h

fill_agree : (size : ℕ) (ls : List Line) (m n : Bank) → storable size ls ≡ true → Long size m → Long size n → Agree size m n
    → Agree size (fill ls m) (fill ls n)
unfolding storable fill
fill_agree size [] m n e x y a = a
fill_agree size (l ∷ ls) m n e x y a =
    let q = (and_iff (is_storable size l) (storable size ls)).0 e in
    fill_agree size ls (with_word m l) (with_word n l) q.1 (line_long l x) (line_long l y) (line_agree size l m n q.0 x y a)

-- A refusal.
refusal_alike : (c : Cause) (line : ℕ) (m n : Bank) → LoadAlike (refusal c line m) (refusal c line n)
refusal_alike c line m n =
    record {
      outcome = refl;
      line = refl;
      machine = refl;
      memory = record { values = λ k h. absurd (omega arith); labels = λ k h. absurd (omega arith) };
    }

-- After the verdict on the text.
settle_alike : (v : Verdict Machine) (ls : List Line) (m n : Bank)
    → ((r : Machine) → v ≡ accept r → storable r.fixed.size ls ≡ true) → LoadAlike (settle v ls m) (settle v ls n)
unfolding cleared
settle_alike (refuse cause line) ls m n f = refusal_alike cause line m n
settle_alike (accept r) ls m n f =
    let size = r.fixed.size in
    record {
      outcome = refl;
      line = refl;
      machine = refl;
      memory =
          fill_agree size ls (cleared size m) (cleared size n) (f r refl)
          (record { values = blank_long size 0 m.values; labels = blank_long size lowest m.labels })
          (record { values = blank_long size 0 n.values; labels = blank_long size lowest n.labels })
          (record { values = blank_same size 0 m.values n.values; labels = blank_same size lowest m.labels n.labels });
    }

-- After the verdicts on an M text and on the records of a HEX text.
firsts_same : (size : ℕ) (f : ℕ → ℕ) (xs ys : List ℕ) (k : ℕ) → k < size
    → get_or (firsts size f ++ xs) k 0 ≡ get_or (firsts size f ++ ys) k 0
firsts_same size f xs ys k h =
    let i : k < length (firsts size f) = rw (length_firsts size f) h in
    get_or-append (firsts size f) xs 0 k i ∙ sym (get_or-append (firsts size f) ys 0 k i)

records_alike : (r : Machine) (ℓ : ℕ) (v : Verdict (List ℕ)) (m n : Bank)
    → LoadAlike (settle_records r ℓ v m) (settle_records r ℓ v n)
unfolding placed
records_alike r ℓ (refuse cause line) m n = refusal_alike cause line m n
records_alike r ℓ (accept places) m n =
    record {
      outcome = refl;
      line = refl;
      machine = refl;
      memory =
          record {
            values = firsts_same r.fixed.size (word_at places) _ _;
            labels = firsts_same r.fixed.size (word_label ℓ places) _ _;
          };
    }

settle_hex_alike : (v : Verdict Machine) (hex : List ℕ) (ℓ : ℕ) (m n : Bank)
    → LoadAlike (settle_hex v hex ℓ m) (settle_hex v hex ℓ n)
settle_hex_alike (refuse cause line) hex ℓ m n = refusal_alike cause line m n
settle_hex_alike (accept r) hex ℓ m n =
    records_alike r ℓ (judge_records 1 (records hex) (no_bytes r.fixed.size)) m n

-- ---- the reply

-- What two such loads come to: one reply, and one view's reply for every label and tick.
module _ (a b : Loading) (h : LoadAlike a b) (r : ReadyLoad a) (q : ReadyLoad b) where
  states_alike : Alike (state_of_load a) (state_of_load b)
  states_alike = record { machine = h.machine; memory = h.memory }

  run_same : a.outcome ≡ Done → b.outcome ≡ Done → listing (run (state_of_load a)) ≡ listing (run (state_of_load b))
  run_same z u =
      let s = state_of_load a in
      let t = state_of_load b in
      listing_alike highest (run s) (run t) (run_alike s t states_alike (r z) (q u))

  run_to_same : (ℓ k : ℕ) → a.outcome ≡ Done → b.outcome ≡ Done
      → listing_for ℓ (run_to k (state_of_load a)) ≡ listing_for ℓ (run_to k (state_of_load b))
  run_to_same ℓ k z u =
      let s = state_of_load a in
      let t = state_of_load b in
      listing_alike ℓ (run_to k s) (run_to k t) (run_to_alike k s t states_alike (r z) (q u))

  reply_same : reply a ≡ reply b
  unfolding reply
  reply_same =
      ⊎_elim
      (λ (z : is_done a.outcome ≡ true).
      let i = is_done_lem a.outcome z in
      let j = sym h.outcome ∙ i in
      rw (i, j) (run_same i j))
      (λ (z : is_done a.outcome ≡ false).
      let j = ap is_done (sym h.outcome) ∙ z in
      rw (z, j) (rw (h.outcome, h.line) refl))
      (either (is_done a.outcome))

  view_reply_same : (ℓ k : ℕ) → view_reply ℓ (look k a) ≡ view_reply ℓ (look k b)
  unfolding look
  view_reply_same ℓ k =
      ⊎_elim
      (λ (z : is_done a.outcome ≡ true).
      let i = is_done_lem a.outcome z in
      let j = sym h.outcome ∙ i in
      ⊎_elim
      (λ (e : leb k a.machine.fixed.limit ≡ true).
      rw (i, j, e, (rw h.machine at e)) (run_to_same ℓ k i j))
      (λ (e : leb k a.machine.fixed.limit ≡ false).
      rw (i, j, e, (rw h.machine at e)) (rw h.machine refl))
      (either (leb k a.machine.fixed.limit)))
      (λ (z : is_done a.outcome ≡ false).
      let j = ap is_done (sym h.outcome) ∙ z in
      rw (z, j) (rw (h.outcome, h.line) refl))
      (either (is_done a.outcome))

-- ---- in two memories of the same lengths

module _ (m n : Bank) (e : length m.values ≡ length n.values) (f : length m.labels ≡ length n.labels) where
  -- The tests of the M line read the lengths of the memory alone.
  tests_same : (h : Header) → header_tests h m ≡ header_tests h n
  unfolding header_tests lent_whole
  tests_same h = rw (e, f)

  first_same : (first : Line) → judge_first first m ≡ judge_first first n
  unfolding judge_m
  first_same (M size errorpc pc p t limit) =
      rw (tests_same (record { size = size; errorpc = errorpc; pc = pc; p = p; t = t; limit = limit }))
  first_same (G a b c) = refl
  first_same (R a b c) = refl
  first_same (W a b c) = refl
  first_same Malformed = refl

  -- So a text has one verdict.
  verdict_same : (text : List ℕ) → judge_text text m ≡ judge_text text n
  unfolding judge_text judge_header
  verdict_same text = rw (first_same (read_line text).line)

  load_alike : (text : List ℕ) → LoadAlike (load text m) (load text n)
  unfolding load
  load_alike text =
      rw (← verdict_same text) (settle_alike (judge_text text m) (lines_behind text) m n (text_storable text m))

  alone_same : (text : List ℕ) → judge_alone text m ≡ judge_alone text n
  unfolding judge_alone judge_header
  alone_same text = rw (first_same (read_line text).line)

  hex_alike : (text hex : List ℕ) (ℓ : ℕ) → LoadAlike (load_hex text hex ℓ m) (load_hex text hex ℓ n)
  unfolding load_hex
  hex_alike text hex ℓ = rw (← alone_same text) (settle_hex_alike (judge_alone text m) hex ℓ m n)

  -- A text gives one reply in both.
  pub same_reply : (text : List ℕ) → reply (load text m) ≡ reply (load text n)
  same_reply text = reply_same _ _ (load_alike text) (load_ready text m) (load_ready text n)

  -- And one view's reply, for every label and tick.
  pub same_view_reply : (ℓ k : ℕ) (text : List ℕ) → view_reply ℓ (look k (load text m)) ≡ view_reply ℓ (look k (load text n))
  same_view_reply ℓ k text = view_reply_same _ _ (load_alike text) (load_ready text m) (load_ready text n) ℓ k

  -- So does an M text with a HEX text and a label.
  pub same_hex_reply : (text hex : List ℕ) (ℓ : ℕ) → ℓ < label_count
      → reply (load_hex text hex ℓ m) ≡ reply (load_hex text hex ℓ n)
  same_hex_reply text hex ℓ is =
      reply_same _ _ (hex_alike text hex ℓ) (hex_ready text hex ℓ m is) (hex_ready text hex ℓ n is)
