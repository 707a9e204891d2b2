-- Witnesses for releases: two records that release the same though they differ in what isn't trusted; and for each of the
-- hypotheses but equal size, gates and error pc two records that differ in it alone, and for which the statement would be
-- false without it. proofs/ReleaseFacts.antt has the checker compute them.
-- Assumes nothing.
use Rattle.std.specs.Prelude.{ℕ, ◌≡◌, Bool, true, false, not, ◌&&◌, List, [], ◌∷◌, eqb, ltb, length, get_or, set, replicate}
use Rattle.principals.specs.Principals.{subset}
use Rattle.labels.specs.Label.{label_count, lowest, trusted, secret}
use Rattle.model.specs.declared.CallGate.{CallGate}
use Rattle.model.specs.declared.Fixed.{Fixed}
use Rattle.model.specs.declared.Control.{Control}
use Rattle.model.specs.declared.Call.TheVariants.{Upcall}
use Rattle.model.specs.Numbers.{register_count, value_count}
use Rattle.model.specs.Record.{Bank, State, Location, register, word, machine_of, value_at, label_at}
use Rattle.model.specs.WellFormed.{no_gate, well_formed, lent_whole}
use Rattle.model.specs.Step.{running, moved, entered, opened, ended, step}
use Rattle.model.specs.Seen.{exists}
use Rattle.releases.specs.Release.{Releases, SameRelease}
use Rattle.model.specs.Facts.{word_of, stop}
use Rattle.witnesses.specs.Witness.{each, same_pair, same_call, same_sight, padded, twice, fixed_of, begin}

-- ---- the terms of the statement, as tests

-- The first n of these labelled numbers are as the types of the code have them.
unfoldable pub bank_typed : ℕ → Bank → Bool
bank_typed n b =
    each n (λ k. ltb (get_or b.values k 0) value_count) && each n (λ k. ltb (get_or b.labels k 0) label_count)

-- The registers and the memory are.
unfoldable pub typed : State → Bool
typed a =
    eqb (length a.registers.values) register_count && eqb (length a.registers.labels) register_count
    && bank_typed register_count a.registers && bank_typed a.fixed.size a.memory

-- A fit running record, lent its whole memory.
unfoldable pub runs : State → Bool
runs a = typed a && well_formed (machine_of a) && running a && lent_whole a.fixed.size a.memory

-- Two gates are one.
unfoldable pub same_gate : CallGate → CallGate → Bool
same_gate g h = eqb g.entry h.entry && same_pair g.pair h.pair

-- Equal size, gates and error pc.
unfoldable pub same_fixed : Fixed → Fixed → Bool
same_fixed f g =
    eqb f.size g.size && eqb f.errorpc g.errorpc && eqb f.count g.count
    && each f.count (λ k. same_gate (get_or f.gates k no_gate) (get_or g.gates k no_gate))

-- Which hypotheses hold, in the order of the statement: s isn't within j; both are fit, running and lent whole; equal size,
-- gates and error pc; limit; pc; pair; clock; open calls; and they agree on what is trusted.
abbrev pub hypotheses : ℕ → ℕ → State → State → List Bool
hypotheses j s a b =
    not (subset s j)
    ∷ (runs a && runs b)
    ∷ same_fixed a.fixed b.fixed
    ∷ eqb a.fixed.limit b.fixed.limit
    ∷ eqb a.control.pc b.control.pc
    ∷ same_pair a.control.pair b.control.pair
    ∷ eqb a.control.clock b.control.clock
    ∷ (same_call a.control.first b.control.first && same_call a.control.second b.control.second)
    ∷ same_sight (trusted j) a b
    ∷ []

-- A step releases x.
unfoldable pub releases : ℕ → State → Location → Bool
releases s a x = exists a x && secret s (label_at a x) && not (secret s (label_at (step a) x))

-- Of x the labels and values are equal, before and after.
unfoldable pub same_release : State → State → Location → Bool
same_release a b x =
    eqb (label_at a x) (label_at b x) && eqb (label_at (step a) x) (label_at (step b) x) && eqb (value_at a x) (value_at b x)
    && eqb (value_at (step a) x) (value_at (step b) x)

-- The statement without some hypothesis would be false: a step of the first record releases x, and the step of the second
-- doesn't do the same. The list says which hypotheses hold.
pub record Steered (j s : ℕ) (a b : State) (x : Location) (held : List Bool) : Type 0 where
  pub met : hypotheses j s a b ≡ held
  pub release : Releases s a x
  pub steered : SameRelease a b x → ⊥

-- ---- the records

-- What the two records of each pair may differ in: the label and value of register 1, the value of register 2, and the label
-- and value, one number, of register 3 and word 3.
pub record Held : Type 0 where
  pub label : ℕ
  pub value : ℕ
  pub new : ℕ
  pub other : ℕ

-- A record at op 16, which relabels register 1 to the label in register 2. Behind it stands a halt.
abbrev pub standing : Fixed → Control → Held → State
standing f c h =
    record {
      fixed = f;
      control = c;
      registers =
          record {
            values = padded 16 0 (0 ∷ h.value ∷ h.new ∷ h.other ∷ []);
            labels = padded 16 lowest (lowest ∷ h.label ∷ lowest ∷ h.other ∷ []);
          };
      memory =
          record {
            values = word_of 16 1 2 0 ∷ stop ∷ 0 ∷ h.other ∷ [];
            labels = lowest ∷ lowest ∷ lowest ∷ h.other ∷ [];
          };
    }

-- Four words, one gate, and that limit.
abbrev pub limited : ℕ → Fixed
limited limit = fixed_of 4 limit 1 1 1

-- At the op under the pc label 240, which all trust. The timing label 16 is trusted by the principal 1 alone.
abbrev pub point : Control
point = begin (record { pc = 240; timing = 16 })

-- Register 1 holds a secret of 2 under a label that all trust, and is to get the lowest label.
abbrev pub secret_of_two : Held
secret_of_two = record { label = 242; value = 7; new = 240; other = 16 }

-- The first record, at the first tick.
abbrev pub first : State
first = standing (limited 60) point secret_of_two

-- Another thing under another label that the principal 1 alone trusts.
abbrev pub second : State
second = standing (limited 60) point (record { label = 242; value = 7; new = 240; other = 31 })

-- The two for a person trusted with {1} and shut out from the secrets of {2}.
abbrev pub release_table : List Bool
release_table =
    -- both release register 1
    releases 2 first (register 1)
    ∷ releases 2 second (register 1)
    -- they differ in the value and label of a register and of a word, and neither is trusted
    ∷ not (eqb (value_at first (register 3)) (value_at second (register 3)))
    ∷ not (eqb (label_at first (register 3)) (label_at second (register 3)))
    ∷ not (eqb (value_at first (word 3)) (value_at second (word 3)))
    ∷ not (eqb (label_at first (word 3)) (label_at second (word 3)))
    -- the timing label is not trusted
    ∷ not (trusted 1 first.control.pair.timing)
    -- what was no secret of 2, stays one, or is barred, isn't released
    ∷ not (releases 4 first (register 1))
    ∷ not (releases 2 (standing (limited 60) point (record { label = 242; value = 7; new = 242; other = 16 })) (register 1))
    ∷ not (releases 2 (standing (limited 1) point secret_of_two) (register 1))
    ∷ []

-- ---- each hypothesis is needed: the second record differs from the first in that alone

-- For a person trusted with {2} and shut out from the secrets of {2}: the label 34, trusted by 2 and with secrets of 2.
abbrev pub trusted_by_two : ℕ → State
trusted_by_two value = standing (limited 60) point (record { label = 34; value = value; new = 240; other = 16 })

-- It has halted.
abbrev pub halted_there : State
halted_there = standing (limited 60) (ended point 0 1 0) secret_of_two

-- It has the limit 1, before which op 16 can't be done.
abbrev pub limited_to_one : State
limited_to_one = standing (limited 1) point secret_of_two

-- It stands at the halt.
abbrev pub at_halt : State
at_halt = standing (limited 60) (moved point 0 1) secret_of_two

-- Its pc label is 16, which doesn't flow to 242.
abbrev pub under_sixteen : State
under_sixteen = standing (limited 60) (entered point 0 0 (twice 16)) secret_of_two

-- It stands at that tick. At 59 the limit bars op 16, and at 58 it doesn't.
abbrev pub at_clock : ℕ → State
at_clock clock = standing (limited 60) (moved point clock 0) secret_of_two

-- It is in an upcall that ends at tick 1, before which op 16 can't be done.
abbrev pub in_call : State
in_call = standing (limited 60) (opened point (Upcall 1 (twice 240) 1)) secret_of_two

-- It has another new label, in a register that is trusted.
abbrev pub other_new : State
other_new = standing (limited 60) point (record { label = 242; value = 7; new = 242; other = 16 })

-- It has another old one, 46, which is trusted too and not sound.
abbrev pub other_old : State
other_old = standing (limited 60) point (record { label = 46; value = 7; new = 240; other = 16 })

-- Of nine hypotheses all hold but that of this number, counted from 0.
abbrev pub all_but : ℕ → List Bool
all_but k = set (replicate 9 true) k false

-- Without any one of these the statement would be false. The last two are of the same one: values, and labels.
pub record EachNeeded : Type 0 where
  pub outside : Steered 2 2 (trusted_by_two 7) (trusted_by_two 8) (register 1) (all_but 0)
  pub runs : Steered 1 2 first halted_there (register 1) (all_but 1)
  pub limit : Steered 1 2 first limited_to_one (register 1) (all_but 3)
  pub pc : Steered 1 2 first at_halt (register 1) (all_but 4)
  pub pair : Steered 1 2 first under_sixteen (register 1) (all_but 5)
  pub clock : Steered 1 2 (at_clock 58) (at_clock 59) (register 1) (all_but 6)
  pub calls : Steered 1 2 first in_call (register 1) (all_but 7)
  pub values : Steered 1 2 first other_new (register 1) (all_but 8)
  pub labels : Steered 1 2 first other_old (register 1) (all_but 8)
