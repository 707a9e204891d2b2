-- Witnesses for the third demand: states and sequences of calls that are small enough to compute with. They show that the
-- theorem's hypotheses are met by machines that differ, that without any one of the provisos or of the equal settings it would
-- be false, and that no proviso is wider than the paper's. proofs/WitnessFacts.antt has the checker compute them.
-- Assumes nothing.
use Rattle.std.specs.Prelude.{ℕ, zero, suc, ◌+◌, ◌-◌, ◌*◌, ◌^◌, max, ◌≡◌, Bool, true, false, not, ◌&&◌, ◌||◌, List, [], ◌∷◌, ◌++◌, leb, eqb, length, take, replicate}
use Rattle.labels.specs.Label.{uncompromised, lowest, highest}
use Rattle.causes.specs.Causes.{Done}
use Rattle.model.specs.declared.Pair.{Pair}
use Rattle.model.specs.declared.CallGate.{CallGate}
use Rattle.model.specs.declared.Fixed.{Fixed}
use Rattle.model.specs.declared.Control.{Control}
use Rattle.model.specs.declared.Call.{Call}
use Rattle.model.specs.declared.Call.TheVariants.{Empty, Gate, Upcall}
use Rattle.model.specs.Record.{Bank, State, Location, register, word, machine_of, value_at, label_at, is_empty, in_upcall}
use Rattle.model.specs.WellFormed.{no_gate}
use Rattle.model.specs.Ops.{may_call_gate}
use Rattle.model.specs.Step.{running, decide, moved, opened, ended, step}
use Rattle.model.specs.Load.{load}
use Rattle.model.specs.Listing.{line, entry_lines}
use Rattle.model.specs.Seen.{within, Seen, hidden, shown, seen_by, seen_at, SeenControl, unseen, seen, seen_control, LowEquivalent}
use Rattle.model.specs.declared.Request.{Request}
use Rattle.model.specs.declared.Request.TheVariants.{Step, Run}
use Rattle.noninterference.specs.Noninterference.{whole, part, Invocation, trace, final, at_tick, reached, downgrades, calls_gate, gate_calls_in, timed_from_outside}
use Rattle.model.specs.Facts.{word_of, end, stop, every}

-- ---- the terms of the statement, as tests

-- A test passes for every number below n.
abbrev pub each : ℕ → (ℕ → Bool) → Bool
each zero f = true
each (suc k) f = f k && each k f

-- A test passes for the sixteen registers and the words below n.
abbrev pub each_location : ℕ → (Location → Bool) → Bool
each_location n f = each 16 (λ k. f (register k)) && each n (λ k. f (word k))

-- The same is seen of a location.
unfoldable pub same_seen : Seen → Seen → Bool
same_seen hidden hidden = true
same_seen hidden (shown l v) = false
same_seen (shown l v) hidden = false
same_seen (shown l v) (shown m w) = eqb l m && eqb v w

-- Two pairs are one.
unfoldable pub same_pair : Pair → Pair → Bool
same_pair q r = eqb q.pc r.pc && eqb q.timing r.timing

-- Two calls are one.
unfoldable pub same_call : Call → Call → Bool
same_call Empty Empty = true
same_call Empty (Gate k q) = false
same_call Empty (Upcall k q e) = false
same_call (Gate k q) Empty = false
same_call (Gate k q) (Gate k' q') = eqb k k' && same_pair q q'
same_call (Gate k q) (Upcall k' q' e') = false
same_call (Upcall k q e) Empty = false
same_call (Upcall k q e) (Gate k' q') = false
same_call (Upcall k q e) (Upcall k' q' e') = eqb k k' && same_pair q q' && eqb e e'

-- Two controls are one.
unfoldable pub same_control : Control → Control → Bool
same_control c d =
    eqb c.pc d.pc && same_pair c.pair d.pair && eqb c.clock d.clock && same_call c.first d.first
    && same_call c.second d.second && eqb c.end d.end && eqb c.why d.why

-- The same is seen of the control.
unfoldable pub same_seen_control : SeenControl → SeenControl → Bool
same_seen_control unseen unseen = true
same_seen_control unseen (seen c) = false
same_seen_control (seen c) unseen = false
same_seen_control (seen c) (seen d) = same_control c d

-- The same is seen of every location, by one who sees these labels.
unfoldable pub same_sight : (ℕ → Bool) → State → State → Bool
same_sight sees s t =
    each_location (max s.fixed.size t.fixed.size) (λ x. same_seen (seen_by sees s x) (seen_by sees t x))

-- Low-equivalent.
abbrev pub low_equivalent : ℕ → State → State → Bool
low_equivalent ℓ s t = same_sight (within ℓ) s t && same_seen_control (seen_control ℓ s) (seen_control ℓ t)

-- A step from s to t downgrades no location.
abbrev pub no_downgrade : ℕ → State → State → Bool
no_downgrade ℓ s t = each_location s.fixed.size (λ x. not (downgrades ℓ s t x))

-- It takes no gate call from outside to within.
abbrev pub no_gate_in : ℕ → State → State → Bool
no_gate_in ℓ s t = not (gate_calls_in ℓ s t)

-- It does not leave the pc label within and the timing label outside.
abbrev pub timed_within : ℕ → State → State → Bool
timed_within ℓ s t = not (timed_from_outside ℓ t)

-- A test passes for every step of a trace that finishes at or before k.
abbrev pub up_to : ℕ → (State → State → Bool) → State → List State → Bool
up_to k f s [] = true
up_to k f s (x ∷ xs) = (not (leb x.control.clock k) || f s x) && up_to k f x xs

-- Which of the three provisos hold up to k, in the order of the statement.
abbrev pub provisos : ℕ → ℕ → State → List State → List Bool
provisos ℓ k s xs =
    up_to k (no_downgrade ℓ) s xs
    ∷ up_to k (no_gate_in ℓ) s xs
    ∷ (not (timed_from_outside ℓ s) && up_to k (timed_within ℓ) s xs)
    ∷ []

-- All of them do.
abbrev pub provisos_hold : ℕ → ℕ → State → List State → Bool
provisos_hold ℓ k s xs = every (provisos ℓ k s xs)

-- What the theorem asks of each sequence: it meets the provisos up to k and reaches k.
abbrev pub qualifies : ℕ → ℕ → State → List Invocation → Bool
qualifies ℓ k s qs = provisos_hold ℓ k s (trace qs s) && reached k s (trace qs s)

-- ---- the text of a state

-- The G lines of the first n gates.
abbrev pub gate_lines : ℕ → List CallGate → List ℕ
gate_lines zero gs = []
gate_lines (suc n) [] = []
gate_lines (suc n) (g ∷ gs) = line 71 (g.entry ∷ g.pair.pc ∷ g.pair.timing ∷ []) ++ gate_lines n gs

-- The text that describes a state at clock 0 with no open call.
abbrev pub text_of : State → List ℕ
text_of s =
    line 77
    (s.fixed.size ∷ s.fixed.errorpc ∷ s.control.pc ∷ s.control.pair.pc ∷ s.control.pair.timing ∷ s.fixed.limit ∷ [])
    ++ gate_lines s.fixed.count s.fixed.gates ++ entry_lines 82 (λ k. seen_at highest s (register k)) 0 16
    ++ entry_lines 87 (λ k. seen_at highest s (word k)) 0 s.fixed.size

-- Load accepts that text, lent the state's own memory, and leaves the state.
abbrev pub Loads : State → Type 0
Loads s =
    load (text_of s) s.memory ≡ record { outcome = Done; line = 0; machine = machine_of s; memory = s.memory }

-- The theorem without some hypothesis would be false: two machines that are loaded and start alike, each getting the calls
-- qs, reach k and are not alike there. The list says which of the three provisos hold, for either machine.
pub record Counterexample (ℓ k : ℕ) (s t : State) (qs : List Invocation) (met : List Bool) : Type 0 where
  pub loads_one : Loads s
  pub loads_two : Loads t
  pub low : LowEquivalent ℓ s t
  pub met_one : provisos ℓ k s (trace qs s) ≡ met
  pub met_two : provisos ℓ k t (trace qs t) ≡ met
  pub reached_one : reached k s (trace qs s) ≡ true
  pub reached_two : reached k t (trace qs t) ≡ true
  pub apart : LowEquivalent ℓ (at_tick k s (trace qs s)) (at_tick k t (trace qs t)) → ⊥

-- ---- the machines

-- A list filled up to n numbers.
abbrev pub padded : ℕ → ℕ → List ℕ → List ℕ
padded zero d xs = []
padded (suc n) d [] = d ∷ padded n d []
padded (suc n) d (x ∷ xs) = x ∷ padded n d xs

-- One label twice.
abbrev pub twice : ℕ → Pair
twice l = record { pc = l; timing = l }

-- A setting: size, limit, error pc, how many of the gates there are, and the first gate's pc. The second gate goes to 3, both
-- under the pair of 240 and 240, and the third to 2 under that of 255 and 255. Label 255, trusted by all
-- and holding the secrets of all, is outside 240 and outside 18.
abbrev pub fixed_of : ℕ → ℕ → ℕ → ℕ → ℕ → Fixed
fixed_of size limit errorpc count entry =
    record {
      size = size;
      limit = limit;
      errorpc = errorpc;
      count = count;
      gates =
          take count
          (record { entry = entry; pair = twice 240 }
          ∷ record { entry = 3; pair = twice 240 }
          ∷ record { entry = 2; pair = twice 255 }
          ∷ [])
          ++ replicate (8 - count) no_gate;
    }

-- The usual one.
abbrev pub usual : Fixed
usual = fixed_of 12 60 11 3 2

-- The control of a loaded record with that pair, at pc 0.
abbrev pub begin : Pair → Control
begin q = record { pc = 0; pair = q; clock = 0; first = Empty; second = Empty; end = 0; why = 0 }

-- The registers. 0: 0. 1 to 4: an upcall's ticks, pair and return pc. 5: the secret, labelled 255. 6 and 7: results labelled
-- 255. 8: a result labelled ℓ. 9, 10: an address and a value. 11, 12: the labels 240 and 51. 13: the third gate's number.
-- 15: labelled 255.
abbrev pub holding : ℕ → ℕ → Bank
holding ℓ secret =
    record {
      values = padded 16 0 (0 ∷ 6 ∷ 255 ∷ 255 ∷ 6 ∷ secret ∷ 0 ∷ 0 ∷ 0 ∷ 10 ∷ 77 ∷ 240 ∷ 51 ∷ 2 ∷ []);
      labels = replicate 5 lowest ++ (255 ∷ 255 ∷ 255 ∷ ℓ ∷ replicate 6 lowest) ++ (255 ∷ []);
    }

-- A machine: its setting and control, its program, its registers, and how many words it is lent beyond the size (of the
-- labels twice as many). The words from 11 on are labelled 255.
abbrev pub machine : Fixed → Control → List ℕ → Bank → ℕ → State
machine f c program registers extra =
    record {
      fixed = f;
      control = c;
      registers = registers;
      memory =
          record { values = padded (f.size + extra) 0 program; labels = padded (f.size + extra + extra) 255 (replicate 11 lowest) };
    }

-- ---- the calls

-- A call lent all.
abbrev pub call : Request → Invocation
call k = record { request = k; words = whole; labels = whole }

-- Steps one by one.
abbrev pub stepping : ℕ → List Invocation
stepping n = replicate n (call Step)

-- One run.
abbrev pub one_run : List Invocation
one_run = call Run ∷ []

-- Calls that are lent too short a part: of the words, of the labels, of both.
abbrev pub refusals : List Invocation
refusals =
    record { request = Step; words = part 2 3; labels = whole }
    ∷ record { request = Run; words = whole; labels = part 0 5 }
    ∷ record { request = Step; words = part 20 40; labels = part 1 100 }
    ∷ []

-- Steps one by one, with refused calls in between.
abbrev pub interrupted : List Invocation
interrupted = stepping 1 ++ refusals ++ stepping 2 ++ refusals ++ stepping 4

-- ---- the main witness: two machines that run differently in an upcall

-- An upcall to 255. In it the machine with the secret 0 goes to 3, writes and ends the upcall; the other multiplies the
-- secret, which would take longer than the upcall lasts. Back at 6: a write to a register, a store, a halt.
abbrev pub main_program : List ℕ
main_program =
    word_of 18 1 2 (3 * 2 ^ 12 + 4 * 2 ^ 8)
    ∷ word_of 11 5 0 3
    ∷ word_of 8 6 5 (5 * 2 ^ 12)
    ∷ word_of 1 7 0 7
    ∷ end
    ∷ 0
    ∷ word_of 1 8 0 9
    ∷ word_of 10 10 9 0
    ∷ stop
    ∷ []

-- The machine that steps one by one, with the secret 0 and one word beyond its size.
abbrev pub left : ℕ → State
left ℓ = machine usual (begin (twice 240)) main_program (holding ℓ 0) 1

-- The machine that runs, with the secret 2^31 and three words beyond its size.
abbrev pub right : ℕ → State
right ℓ = machine usual (begin (twice 240)) main_program (holding ℓ (2 ^ 31)) 3

-- The first machine's state at tick k.
abbrev pub left_at : ℕ → ℕ → State
left_at ℓ k = at_tick k (left ℓ) (trace interrupted (left ℓ))

-- The second machine's state at tick k.
abbrev pub right_at : ℕ → ℕ → State
right_at ℓ k = at_tick k (right ℓ) (trace one_run (right ℓ))

-- The pc label is within.
abbrev pub visible : ℕ → State → Bool
visible ℓ s = within ℓ s.control.pair.pc

-- The results that are to be seen at ℓ: register 8 and word 10.
abbrev pub shows : ℕ → State → ℕ → ℕ → Bool
shows ℓ s v w = same_seen (seen_at ℓ s (register 8)) (shown ℓ v) && same_seen (seen_at ℓ s (word 10)) (shown 240 w)

-- In the upcall, out of sight.
abbrev pub away : ℕ → State → Bool
away ℓ s = in_upcall s.control && not (visible ℓ s) && running s

-- Back from the upcall in sight, at its end tick + 1, with nothing written yet.
abbrev pub home : ℕ → State → Bool
home ℓ s = visible ℓ s && eqb s.control.clock 9 && eqb s.control.pc 6 && shows ℓ s 0 0

-- Halted in sight at tick 14, with both results written.
abbrev pub finished : ℕ → State → Bool
finished ℓ s = visible ℓ s && eqb s.control.clock 14 && eqb s.control.end 1 && shows ℓ s 9 77

-- What is so of the two machines.
abbrev pub main_facts : ℕ → List Bool
main_facts ℓ =
    -- the secrets differ; the lent words of the two in length, and the lent words and labels of one
    not (eqb (value_at (left ℓ) (register 5)) (value_at (right ℓ) (register 5)))
    ∷ not (eqb (length (left ℓ).memory.values) (length (right ℓ).memory.values))
    ∷ not (eqb (length (left ℓ).memory.values) (length (left ℓ).memory.labels))
    -- of thirteen calls six are refused
    ∷ eqb (length interrupted) 13
    ∷ eqb (length (trace interrupted (left ℓ))) 7
    -- at tick 5, which both have reached, both are away, at different clocks and pcs
    ∷ reached 5 (left ℓ) (trace interrupted (left ℓ))
    ∷ reached 5 (right ℓ) (trace one_run (right ℓ))
    ∷ away ℓ (left_at ℓ 5)
    ∷ away ℓ (right_at ℓ 5)
    ∷ not (eqb (left_at ℓ 5).control.clock (right_at ℓ 5).control.clock)
    ∷ not (eqb (left_at ℓ 5).control.pc (right_at ℓ 5).control.pc)
    -- at tick 9 both are home, for different causes
    ∷ home ℓ (left_at ℓ 9)
    ∷ home ℓ (right_at ℓ 9)
    ∷ eqb (value_at (left_at ℓ 9) (register 15)) 1
    ∷ eqb (value_at (right_at ℓ 9) (register 15)) 2
    -- at tick 14 both are finished
    ∷ finished ℓ (left_at ℓ 14)
    ∷ finished ℓ (right_at ℓ 14)
    ∷ []

-- At 240, which is sound, and at 18, which isn't.
abbrev pub main_table : List Bool
main_table = uncompromised 240 ∷ not (uncompromised 18) ∷ every (main_facts 240) ∷ every (main_facts 18) ∷ []

-- ---- each hypothesis is needed

-- A machine with that pair and program, and a secret, for the label 240.
abbrev pub trial_of : Pair → List ℕ → ℕ → State
trial_of q program secret = machine usual (begin q) program (holding 240 secret) 0

-- Op 16 relabels the secret to 240.
abbrev pub downgrading : ℕ → State
downgrading = trial_of (twice 240) (word_of 16 5 11 0 ∷ stop ∷ [])

-- From 255, a gate call to the gate whose number is the secret.
abbrev pub calling_gate : ℕ → State
calling_gate = trial_of (twice 255) (word_of 20 0 5 0 ∷ 0 ∷ stop ∷ stop ∷ [])

-- With the pc label 240 and the timing label 255, op 8 is timed by the secret.
abbrev pub timed_by_secret : ℕ → State
timed_by_secret = trial_of (record { pc = 240; timing = 255 }) (word_of 8 6 5 (5 * 2 ^ 12) ∷ stop ∷ [])

-- A gate call to the first gate.
abbrev pub gate_in : ℕ
gate_in = word_of 20 0 0 0

-- A machine with a setting of its own and that program, for the label 240.
abbrev pub under : Fixed → List ℕ → State
under f program = machine f (begin (twice 240)) program (holding 240 0) 0

-- No program: its fetch fails, which shows the size, the limit and the error pc.
abbrev pub nothing_there : List ℕ
nothing_there = []

-- A gate call, which shows the gates.
abbrev pub gate_called : List ℕ
gate_called = gate_in ∷ []

-- ---- what breaks no proviso

-- A step of s breaks none at 240: it meets all three, and so does the state that it starts in.
abbrev pub breaks_none : State → Bool
breaks_none s =
    no_downgrade 240 s (step s) && no_gate_in 240 s (step s) && timed_within 240 s (step s) && not (timed_from_outside 240 s)

-- It sets this register's label from the one to the other.
abbrev pub marks_from : State → ℕ → ℕ → ℕ → Bool
marks_from s k l m = eqb (label_at s (register k)) l && eqb (label_at (step s) (register k)) m

-- It goes from a pc label to another.
abbrev pub goes_from : State → ℕ → ℕ → Bool
goes_from s p q = eqb s.control.pair.pc p && eqb (step s).control.pair.pc q

-- A machine with that control and one word of program.
abbrev pub at : Control → ℕ → State
at c w = machine usual c (w ∷ []) (holding 240 0) 0

-- A gate call to the third gate.
abbrev pub gate_out : ℕ
gate_out = word_of 20 0 13 0

-- Steps that break no proviso, each beside a test that it is the step meant.
abbrev pub unbroken_table : List Bool
unbroken_table =
    -- 240 is within, 255 and 51 are outside
    within 240 240
    ∷ not (within 240 255)
    ∷ not (within 240 51)
    -- a raise from within to outside
    ∷ (let s = at (begin (twice 240)) (word_of 15 8 2 0) in breaks_none s && marks_from s 8 240 255)
    -- a relabel from outside to outside
    ∷ (let s = at (begin (twice 240)) (word_of 16 5 12 0) in breaks_none s && marks_from s 5 255 51)
    -- a gate call from within to within, from outside to outside
    ∷ (let s = at (begin (twice 240)) gate_in in breaks_none s && calls_gate (decide s) && goes_from s 240 240)
    ∷ (let s = at (begin (twice 255)) gate_out in breaks_none s && calls_gate (decide s) && goes_from s 255 255)
    -- an op 20 from outside to within, spent at the limit
    ∷ (let s = at (moved (begin (twice 255)) 58 0) gate_in in
    breaks_none s && may_call_gate s gate_in && eqb (step s).control.end 2 && not (calls_gate (decide s)))
    -- an ended record that stands at such an op 20
    ∷ (let s = at (ended (begin (twice 255)) 7 1 0) gate_in in
    breaks_none s && may_call_gate s gate_in && not (running s) && not (calls_gate (decide s)))
    -- a close that brings p within
    ∷ (let s = at (opened (begin (twice 255)) (Upcall 6 (twice 240) 8)) end in
    breaks_none s && goes_from s 255 240 && is_empty (step s).control.first)
    -- p and t both outside
    ∷ (let s = at (begin (twice 255)) (word_of 1 5 0 1) in breaks_none s && goes_from s 255 255 && eqb (step s).control.pair.timing 255)
    ∷ []

-- ---- what is reached

-- Ticks that are reached, and two that aren't.
abbrev pub reached_table : List Bool
reached_table =
    -- every tick after an end
    not (running (final (left 240) (trace one_run (left 240))))
    ∷ reached 0 (left 240) (trace one_run (left 240))
    ∷ reached 14 (left 240) (trace one_run (left 240))
    ∷ reached 1000 (left 240) (trace one_run (left 240))
    -- in the middle of an upcall, at clock 4, that clock less one, but not that clock itself
    ∷ away 240 (final (left 240) (trace (stepping 3) (left 240)))
    ∷ eqb (final (left 240) (trace (stepping 3) (left 240))).control.clock 4
    ∷ reached 3 (left 240) (trace (stepping 3) (left 240))
    ∷ not (reached 4 (left 240) (trace (stepping 3) (left 240)))
    -- at the last clock of a sequence that has not ended, one is not yet where another comes with no tick
    ∷ (let s = under usual nothing_there in
    eqb (final s (trace (stepping 1) s)).control.clock 1 && not (reached 1 s (trace (stepping 1) s))
    && not (low_equivalent 240 (at_tick 1 s (trace (stepping 1) s)) (at_tick 1 s (trace one_run s))))
    ∷ []
