-- An accepted load leaves a state as the theorem wants it: well-formed and running at clock 0 with no open call, its memory
-- whole, its numbers in their ranges. And a memory of 2,048 words and labels is never too short for a load.
-- Assumes nothing.
use Prim.Native.Nat.{ℕ, ◌+◌, ◌^◌, ◌<◌, ◌≤◌, zero-le}
use mathlib.Core.Path.{◌≡◌, refl, sym, ap, ◌∙◌, subst}
use mathlib.Core.Bool.{Bool, true, false, ◌&&◌}
use mathlib.Core.List.{List, [], ◌∷◌, ◌++◌}
use native.Mathlib.Nat.{lt_of_lt_of_le}
use native.Mathlib.Omega.{arith}
use lib.Dec.{leb, ltb, eqb, lit<, lit≤}
use lib.ListN.{length, drop, replicate, length-set, length-append, length-replicate, get_or, get_or-replicate, get_or-append}
use borrow.Author.Tests.{leb-true, ltb-true, eqb-false, eq-eqb}
use Rattle.labels.specs.Label.{valid_pair, label_count, lowest}
use Rattle.labels.proofs.Constants.{lowest_number}
use Rattle.causes.specs.declared.Cause.{Cause}
use Rattle.causes.specs.declared.Cause.TheVariants.{TextLength, MalformedLine, OutOfRange, InvalidPair, ShortMemory}
use Rattle.causes.specs.Causes.{Outcome, Done, Refused, cause_number}
use Rattle.causes.specs.Tests.{unless, first_refusal}
use Rattle.causes.proofs.Numbers.{done_or_refused}
use Rattle.causes.proofs.Order.{AllPass, all_pass, AllCauses, some_cause}
use Rattle.model.specs.declared.CallGate.{CallGate}
use Rattle.model.specs.declared.Control.{Control}
use Rattle.model.specs.declared.Call.TheVariants.{Empty}
use Rattle.model.specs.declared.format.Line.{Line}
use Rattle.model.specs.declared.format.Line.TheVariants.{M, G, R, W, Malformed}
use Rattle.model.specs.declared.judging.Last.{Last}
use Rattle.model.specs.declared.judging.Header.{Header}
use Rattle.model.specs.Record.{Bank, Machine, State, machine_of, state_of}
use Rattle.model.specs.WellFormed.{is_valid, end_in_range, zero_reads, no_gate, well_formed, lent_whole}
use Rattle.model.specs.Numbers.{most_gates, value_count}
use Rattle.model.specs.Inner.Typed.{Typed, Below, BankTyped, RegistersTyped}
use Rattle.model.specs.Ops.{writable, is_label}
use Rattle.model.specs.Step.{running, set_value}
use Rattle.model.specs.Text.{read_line}
use Rattle.model.specs.Load.{machine_of_header, with_gate, with_register, with_entry, with_line, header_in_range, gate_in_range, entry_in_range, header_tests, line_tests, behind_header, last_of, Verdict, refuse, accept, tried, ◌and_then◌, judge_m, judge_first, judge_header, judge, lines_behind, judge_text, cleared, with_word, fill, settle, load}
use Rattle.model.specs.Program.{state_of_load}
use Rattle.model.proofs.Truth.{choice, and_iff, clash}
use Rattle.model.proofs.Ready.{FixedFit, none, fits, whole_lent, Ready, ready}
use Rattle.model.proofs.Writes.{set_at, zero_left}
use Rattle.model.proofs.Legal.{writable_register}
use Rattle.model.proofs.Step.{value_typed, label_typed}

-- ---- the state while the lines are read

-- The control of a machine that has done nothing yet.
record Started (c : Control) : Type 0 where
  valid : is_valid c.pair ≡ true
  clock : c.clock ≡ 0
  first : c.first ≡ Empty
  second : c.second ≡ Empty
  end : c.end ≡ 0
  why : c.why ≡ 0

-- Memory of at least the size, with words of 32 bits and labels below it.
pub record Lent (size : ℕ) (m : Bank) : Type 0 where
  pub numbers : BankTyped size m
  pub words : size ≤ length m.values
  pub labels : size ≤ length m.labels

-- The record and the memory so far are in order.
record InOrder (r : Machine) (m : Bank) : Type 0 where
  fixed : FixedFit r.fixed
  places : length r.fixed.gates ≡ most_gates
  started : Started r.control
  registers : RegistersTyped r.registers
  zero : zero_reads r.registers ≡ true
  memory : Lent r.fixed.size m

-- One more gate, whose pair is valid.
gate_in_order : (r : Machine) (m : Bank) (pc p t : ℕ) → InOrder r m → gate_in_range r.fixed.count pc p t ≡ true
    → valid_pair p t ≡ true → InOrder (with_gate r pc p t) m
unfolding gate_in_range
gate_in_order r m pc p t h e v =
    let k = simp and_iff at e in
    let n = r.fixed.count in
    let c = ltb-true n 8 k.1 in
    let f = h.fixed in
    let gs = r.fixed.gates in
    let there : n < length gs = rw h.places c in
    let g : CallGate = record { entry = pc; pair = record { pc = p; timing = t } } in
    record {
      fixed =
          record {
            size_low = f.size_low;
            size_high = f.size_high;
            limit_low = f.limit_low;
            limit_high = f.limit_high;
            gates = omega arith;
            pairs = λ j l. rw (set_at no_gate gs n j g there)
                (choice (λ (x : CallGate). is_valid x.pair ≡ true) (eqb n j) g (get_or gs j no_gate)
                (λ d. v)
                (λ d. let other = eqb-false n j d in f.pairs j (omega arith)));
          };
      places = length-set gs n g ∙ h.places;
      started = h.started;
      registers = h.registers;
      zero = h.zero;
      memory = h.memory;
    }

-- One entry set.
entry_typed : {n : ℕ} (b : Bank) (k l v : ℕ) → k < length b.values → k < length b.labels → is_label l ≡ true
    → ltb v value_count ≡ true → BankTyped n b → BankTyped n (with_entry b k l v)
unfolding is_label
entry_typed b k l v i j e f t =
    label_typed (set_value v b k) k l j (ltb-true l label_count e) (value_typed b k v i (ltb-true v value_count f) t)

-- One register set, that isn't register 0.
register_in_order : (r : Machine) (m : Bank) (k l v : ℕ) → InOrder r m → entry_in_range 16 k l v ≡ true → writable k ≡ true
    → InOrder (with_register r k l v) m
unfolding entry_in_range zero_reads
register_in_order r m k l v h e z =
    let q = simp and_iff at e in
    let above = writable_register k z in
    let b = r.registers in
    let i : k < length b.values = rw h.registers.values (ltb-true k 16 q.0.0) in
    let j : k < length b.labels = rw h.registers.labels (ltb-true k 16 q.0.0) in
    record {
      fixed = h.fixed;
      places = h.places;
      started = h.started;
      registers =
          record {
            numbers = entry_typed b k l v i j q.0.1 q.1 h.registers.numbers;
            values = length-set b.values k v ∙ h.registers.values;
            labels = length-set b.labels k l ∙ h.registers.labels;
          };
      zero = rw (zero_left b.values k v above, zero_left b.labels k l above) (unfold zero_reads in h.zero);
      memory = h.memory;
    }

-- One word set.
word_in_order : (r : Machine) (m : Bank) (k l v : ℕ) → InOrder r m → entry_in_range r.fixed.size k l v ≡ true
    → InOrder r (with_entry m k l v)
unfolding entry_in_range
word_in_order r m k l v h e =
    let q = simp and_iff at e in
    let k-below = ltb-true k r.fixed.size q.0.0 in
    let i = lt_of_lt_of_le k-below h.memory.words in
    let j = lt_of_lt_of_le k-below h.memory.labels in
    record {
      fixed = h.fixed;
      places = h.places;
      started = h.started;
      registers = h.registers;
      zero = h.zero;
      memory =
          record {
            numbers = entry_typed m k l v i j q.0.1 q.1 h.memory.numbers;
            words = rw (length-set m.values k v) h.memory.words;
            labels = rw (length-set m.labels k l) h.memory.labels;
          };
    }

-- ---- the lines

-- No refusal is an acceptance.
pub refuse_accept {κ} : {P : Type κ} {A : Type 0} {c : Cause} {n : ℕ} {a : A}
    → ◌≡◌ {A = Verdict A} (refuse c n) (accept a) → P
refuse_accept e = let z : ◌≡◌ {A = ℕ} 0 1 = cc in absurd (omega arith)

-- An accepted line passes its tests, and the lines behind it are accepted.
pub tried_accept : {A : Type 0} (o : Outcome) (n : ℕ) (more : Verdict A) (r : A) → tried o n more ≡ accept r
    → (o ≡ Done) × (more ≡ accept r)
tried_accept Done n more r e = (refl, e)
tried_accept (Refused c) n more r e = refuse_accept e

pub judge_accept : (r : Machine) (last : Last) (n : ℕ) (l : Line) (ls : List Line) (r' : Machine)
    → judge r last n (l ∷ ls) ≡ accept r'
    → AllPass (line_tests r.fixed.size r.fixed.count last l) × (judge (with_line r l) (last_of l) (n + 1) ls ≡ accept r')
unfolding judge
judge_accept r last n l ls r' e =
    let tests = line_tests r.fixed.size r.fixed.count last l in
    let a = tried_accept (first_refusal tests) n _ r' e in (all_pass tests a.0, a.1)

-- A line that passes its tests leaves record and memory in order.
line_in_order : (r : Machine) (m : Bank) (last : Last) (l : Line)
    → AllPass (line_tests r.fixed.size r.fixed.count last l) → InOrder r m → InOrder (with_line r l) (with_word m l)
unfolding line_tests
line_in_order r m last (M a b c d e f) q h = clash q.0 refl
line_in_order r m last (G pc p t) q h = gate_in_order r m pc p t h q.1.0 q.1.1.0
line_in_order r m last (R k l v) q h = register_in_order r m k l v h q.1.0 q.1.1.1.0
line_in_order r m last (W k l v) q h = word_in_order r m k l v h q.1.0
line_in_order r m last Malformed q h = clash q.0 refl

-- Lines that are accepted leave record and memory in order.
judged : (r : Machine) (last : Last) (n : ℕ) (ls : List Line) (m : Bank) (r' : Machine) → judge r last n ls ≡ accept r'
    → InOrder r m → InOrder r' (fill ls m)
unfolding judge fill
judged r last n [] m r' e h = let p : r ≡ r' = cc in subst (λ (x : Machine). InOrder x m) p h
judged r last n (l ∷ ls) m r' e h =
    let a = judge_accept r last n l ls r' e in
    judged (with_line r l) (last_of l) (n + 1) ls (with_word m l) r' a.1 (line_in_order r m last l a.0 h)

-- A line leaves the size.
pub line_size : (r : Machine) (l : Line) → (with_line r l).fixed.size ≡ r.fixed.size
line_size r (M a b c d e f) = refl
line_size r (G pc p t) = refl
line_size r (R k l v) = refl
line_size r (W k l v) = refl
line_size r Malformed = refl

-- So do all.
pub judge_size : (r : Machine) (last : Last) (n : ℕ) (ls : List Line) (r' : Machine) → judge r last n ls ≡ accept r'
    → r'.fixed.size ≡ r.fixed.size
unfolding judge
judge_size r last n [] r' e = let p : r ≡ r' = cc in ap (λ (x : Machine). x.fixed.size) (sym p)
judge_size r last n (l ∷ ls) r' e =
    judge_size (with_line r l) (last_of l) (n + 1) ls r' (judge_accept r last n l ls r' e).1 ∙ line_size r l

-- ---- the first line

-- Blank memory below the size, whatever lies beyond.
blank_lent : (n x : ℕ) (xs : List ℕ) → n ≤ length (replicate n x ++ drop n xs)
blank_lent n x xs = rw (length-append (replicate n x) (drop n xs), length-replicate n x) (omega arith)

-- One number n times, and whatever lies beyond.
blank_below : {k : ℕ} (n x : ℕ) (xs : List ℕ) → x < k → Below k n (replicate n x ++ xs)
blank_below n x xs lt i h =
    rw (get_or-append (replicate n x) xs 0 i (rw (length-replicate {A = ℕ} n x) h), get_or-replicate {A = ℕ} n i x 0 h) lt

-- Blank values and labels, and whatever lies beyond.
blank_typed : (n : ℕ) (b : Bank)
    → BankTyped n (record { values = replicate n 0 ++ b.values; labels = replicate n lowest ++ b.labels })
blank_typed n b = record { values = blank_below n 0 b.values (lit< tt); labels = blank_below n lowest b.labels (rw lowest_number (lit< tt)) }

-- An M line in its ranges with a valid pair gives a record in order.
header_in_order : (h : Header) (m : Bank) → header_in_range h ≡ true → is_valid (machine_of_header h).control.pair ≡ true
    → InOrder (machine_of_header h) (cleared h.size m)
unfolding header_in_range cleared
header_in_order h m e v =
    let q = simp and_iff at e in
    record {
      fixed =
          record {
            size_low = leb-true 1 h.size q.0.0.0.0.0.0;
            size_high = leb-true h.size 2048 q.0.0.0.0.0.1;
            limit_low = leb-true 1 h.limit q.1.0;
            limit_high = leb-true h.limit (2 ^ 24) q.1.1;
            gates = lit≤ tt;
            pairs = λ k l. absurd (omega arith);
          };
      places = refl;
      started = record { valid = v; clock = refl; first = refl; second = refl; end = refl; why = refl };
      registers = record { numbers = blank_typed 16 (record { values = []; labels = [] }); values = refl; labels = refl };
      zero = unfold zero_reads in eq-eqb lowest lowest refl;
      memory =
          record {
            numbers = blank_typed h.size (record { values = drop h.size m.values; labels = drop h.size m.labels });
            words = blank_lent h.size 0 m.values;
            labels = blank_lent h.size _ m.labels;
          };
    }

-- ---- the load

-- A state as an accepted load leaves it: well-formed and running at clock 0 with no open call, its memory whole.
pub record Loaded (s : State) : Type 0 where
  pub well_formed : well_formed (machine_of s) ≡ true
  pub running : running s ≡ true
  pub clock : s.control.clock ≡ 0
  pub first : s.control.first ≡ Empty
  pub second : s.control.second ≡ Empty
  pub lent : lent_whole s.fixed.size s.memory ≡ true
  pub typed : Typed s

-- A record and memory in order are a loaded state.
in_order_loaded : (r : Machine) (m : Bank) → InOrder r m → Loaded (state_of r m)
unfolding running
in_order_loaded r m h =
    let c = h.started in
    record {
      well_formed =
          fits r
          (record {
            fixed = h.fixed;
            end = unfold end_in_range in rw (c.end, c.why);
            clock = rw c.clock zero-le;
            valid = c.valid;
            calls = rw (c.first, c.second) none;
            zero = h.zero;
          });
      running = rw c.end;
      clock = c.clock;
      first = c.first;
      second = c.second;
      lent = whole_lent _ m h.memory.words h.memory.labels;
      typed = record { registers = h.registers; memory = h.memory.numbers };
    }

-- What is accepted behind a test is accepted.
pub unless_accept : {A : Type 0} (test : Bool) (c : Cause) (n : ℕ) (v : Verdict A) (a : A)
    → unless test (refuse c n) v ≡ accept a → (test ≡ true) × (v ≡ accept a)
unless_accept true c n v a e = (refl, e)
unless_accept false c n v a e = refuse_accept e

-- What is accepted behind another verdict is accepted, and so is what comes before it.
pub record Both {A B : Type 0} (v : Verdict A) (more : A → Verdict B) (b : B) : Type 0 where
  pub first : A
  pub accepted : v ≡ accept first
  pub behind : more first ≡ accept b

pub then_accept : {A B : Type 0} (v : Verdict A) (more : A → Verdict B) (b : B) → (v and_then more) ≡ accept b → Both v more b
then_accept (refuse c n) more b e = refuse_accept e
then_accept (accept a) more b e = record { first = a; accepted = refl; behind = e }

-- An accepted header: the record of an M line that passes its tests.
pub record Heads (m : Bank) (r : Machine) : Type 0 where
  pub header : Header
  pub is : r ≡ machine_of_header header
  pub tests : AllPass (header_tests header m)

first_accepts : (first : Line) (m : Bank) (r : Machine) → judge_first first m ≡ accept r → Heads m r
unfolding judge_m
first_accepts (M size errorpc pc p t limit) m r e =
    let h : Header = record { size = size; errorpc = errorpc; pc = pc; p = p; t = t; limit = limit } in
    let a = tried_accept (first_refusal (header_tests h m)) 1 (accept (machine_of_header h)) r e in
    record { header = h; is = cc a.1; tests = all_pass _ a.0 }
first_accepts (G a b c) m r e = refuse_accept e
first_accepts (R a b c) m r e = refuse_accept e
first_accepts (W a b c) m r e = refuse_accept e
first_accepts Malformed m r e = refuse_accept e

pub header_accepts : (bytes : ℕ) (first : Line) (m : Bank) (r : Machine) → judge_header bytes first m ≡ accept r → Heads m r
unfolding judge_header
header_accepts bytes first m r e =
    first_accepts first m r (unless_accept (leb 1 bytes && leb bytes 65535) TextLength 0 (judge_first first m) r e).1

-- It has the memory that it wants, and leaves record and memory in order.
pub heads_whole : {m : Bank} {r : Machine} → Heads m r → lent_whole r.fixed.size m ≡ true
unfolding header_tests
heads_whole a = rw a.is a.tests.1.1.0

heads_in_order : {m : Bank} {r : Machine} → Heads m r → InOrder r (cleared r.fixed.size m)
unfolding header_tests
heads_in_order {m} a = rw a.is (header_in_order a.header m a.tests.0 a.tests.1.0)

-- With any memory in order it is a loaded state.
pub heads_loaded : {m : Bank} {r : Machine} → Heads m r → (b : Bank) → Lent r.fixed.size b → Loaded (state_of r b)
heads_loaded {r = r} a b l =
    let h = heads_in_order a in
    in_order_loaded r b
    (record { fixed = h.fixed; places = h.places; started = h.started; registers = h.registers; zero = h.zero; memory = l })

-- An accepted text: a header that is accepted, and so are the lines behind it.
pub text_accepts : (text : List ℕ) (m : Bank) (r : Machine) → judge_text text m ≡ accept r
    → Both (judge_header (length text) (read_line text).line m) (λ q. judge q behind_header 2 (lines_behind text)) r
unfolding judge_text
text_accepts text m r e = then_accept _ _ r e

-- It leaves a loaded state.
accepts_loaded : (text : List ℕ) (m : Bank) (r : Machine) → judge_text text m ≡ accept r
    → Loaded (state_of r (fill (lines_behind text) (cleared r.fixed.size m)))
accepts_loaded text m r e =
    let a = text_accepts text m r e in
    let q = a.first in
    let size = judge_size q behind_header 2 (lines_behind text) r a.behind in
    in_order_loaded r (fill (lines_behind text) (cleared r.fixed.size m))
    (subst (λ (n : ℕ). InOrder r (fill (lines_behind text) (cleared n m))) (sym size)
    (judged q behind_header 2 (lines_behind text) (cleared q.fixed.size m) r a.behind
    (heads_in_order (header_accepts _ _ m q a.accepted))))

-- So the answer by a verdict has one where it is done.
settled : (v : Verdict Machine) (ls : List Line) (m : Bank)
    → ((r : Machine) → v ≡ accept r → Loaded (state_of r (fill ls (cleared r.fixed.size m))))
    → (settle v ls m).outcome ≡ Done → Loaded (state_of_load (settle v ls m))
settled (refuse c n) ls m f e = done_or_refused e refl
settled (accept r) ls m f e = f r refl

-- An accepted load leaves a loaded state.
pub load_loaded : (text : List ℕ) (m : Bank) → (load text m).outcome ≡ Done → Loaded (state_of_load (load text m))
unfolding load
load_loaded text m = settled (judge_text text m) (lines_behind text) m (accepts_loaded text m)

-- ---- memory that is never too short

-- A cause other than short memory.
abbrev Other : Cause → Type 0
Other c = eqb (cause_number c) (cause_number ShortMemory) ≡ false

-- The outcome is no refusal, or one of another cause.
abbrev Early : Outcome → Type 0
Early o = (c : Cause) → o ≡ Refused c → Other c

-- The verdict doesn't refuse for short memory.
abbrev pub NotShort : {A : Type 0} → Verdict A → Type 0
NotShort v = (n : ℕ) → v ≡ refuse ShortMemory n → ⊥

-- Where a line's outcome is such, its verdict is where that of the lines behind it is.
tried_not_short : {A : Type 0} (o : Outcome) (n : ℕ) (more : Verdict A) → Early o → NotShort more → NotShort (tried o n more)
tried_not_short Done n more f h = h
tried_not_short (Refused c) n more f h = λ k e. let q : c ≡ ShortMemory = cc in clash refl (subst Other q (f c refl))

-- An acceptance doesn't.
pub accept_not_short : {A : Type 0} (a : A) → NotShort (accept a)
accept_not_short a k e = refuse_accept (sym e)

-- Nor does what follows, where neither part does.
pub then_not_short : {A B : Type 0} (v : Verdict A) (more : A → Verdict B) → NotShort v → ((a : A) → NotShort (more a))
    → NotShort (v and_then more)
then_not_short (refuse c n) more f g = λ k e. let q : c ≡ ShortMemory = cc in f n (rw q refl)
then_not_short (accept a) more f g = g a

-- The causes of a line behind the first.
line_causes : (size count : ℕ) (last : Last) (l : Line)
    → AllCauses Other (line_tests size count last l)
unfolding line_tests
line_causes size count last (M a b c d e f) = (refl, tt)
line_causes size count last (G pc p t) = (refl, (refl, (refl, tt)))
line_causes size count last (R k l v) = (refl, (refl, (refl, (refl, tt))))
line_causes size count last (W k l v) = (refl, (refl, (refl, tt)))
line_causes size count last Malformed = (refl, tt)

judge_not_short : (r : Machine) (last : Last) (n : ℕ) (ls : List Line) → NotShort (judge r last n ls)
unfolding judge
judge_not_short r last n [] = accept_not_short r
judge_not_short r last n (l ∷ ls) =
    let tests = line_tests r.fixed.size r.fixed.count last l in
    tried_not_short (first_refusal tests) n _
    (some_cause Other tests (line_causes r.fixed.size r.fixed.count last l))
    (judge_not_short (with_line r l) (last_of l) (n + 1) ls)

-- The size of an M line in its ranges is at most 2,048.
header_size : (h : Header) → header_in_range h ≡ true → h.size ≤ 2048
unfolding header_in_range
header_size h e = let q = simp and_iff at e in leb-true h.size 2048 q.0.0.0.0.0.1

-- A refusal by another cause.
pub other : {A : Type 0} (c : Cause) {n : ℕ} → Other c → NotShort {A = A} (refuse c n)
other c h k e = let q : c ≡ ShortMemory = cc in clash refl (subst Other q h)

settle_not_short : (v : Verdict Machine) (ls : List Line) (m : Bank) → NotShort v → (settle v ls m).outcome ≡ Refused ShortMemory → ⊥
settle_not_short (refuse c n) ls m h e = let q : c ≡ ShortMemory = cc in h n (rw q refl)
settle_not_short (accept r) ls m h e = done_or_refused refl e

module _ (m : Bank) (words : 2048 ≤ length m.values) (labels : 2048 ≤ length m.labels) where
  lent_enough : (h : Header) → header_in_range h ≡ true
      → lent_whole h.size m ≡ true
  lent_enough h e = let s = header_size h e in whole_lent h.size m (omega arith) (omega arith)

  header_early : (h : Header) → Early (first_refusal (header_tests h m))
  unfolding header_tests first_refusal
  header_early h =
      choice Early (header_in_range h) _ _
      (λ e.
      choice Early (is_valid (machine_of_header h).control.pair) _ _
      (λ v.
      choice Early (lent_whole h.size m) _ _
      (λ l c q. done_or_refused refl q)
      (λ l. clash (lent_enough h e) l))
      (λ v. early InvalidPair refl))
      (λ e. early OutOfRange refl)
    where
      early : (c : Cause) → Other c → Early (Refused c)
      early c k d q = let p : c ≡ d = cc in rw (← p) k

  first_not_short : (first : Line) → NotShort (judge_first first m)
  unfolding judge_m
  first_not_short (M size errorpc pc p t limit) =
      let h : Header = record { size = size; errorpc = errorpc; pc = pc; p = p; t = t; limit = limit } in
      tried_not_short (first_refusal (header_tests h m)) 1 _ (header_early h) (accept_not_short _)
  first_not_short (G a b c) = other MalformedLine refl
  first_not_short (R a b c) = other MalformedLine refl
  first_not_short (W a b c) = other MalformedLine refl
  first_not_short Malformed = other MalformedLine refl

  pub header_not_short : (bytes : ℕ) (first : Line) → NotShort (judge_header bytes first m)
  unfolding judge_header
  header_not_short bytes first =
      choice NotShort (leb 1 bytes && leb bytes 65535) _ _ (λ h. first_not_short first) (λ h. other TextLength refl)

  -- Into 2,048 words and labels no load is refused for short memory.
  pub load_not_short : (text : List ℕ) → (load text m).outcome ≡ Refused ShortMemory → ⊥
  unfolding load judge_text
  load_not_short text =
      settle_not_short _ (lines_behind text) m
      (then_not_short (judge_header (length text) (read_line text).line m) _ (header_not_short _ _)
      (λ r. judge_not_short r behind_header 2 (lines_behind text)))

-- A loaded state is ready.
pub loaded_ready : (s : State) → Loaded s → Ready s
loaded_ready s l = ready s l.typed l.well_formed l.lent
