-- An outsider can't steer a release: one step each of two records that are the same but for what the outsider may have
-- written. j is the set that a person is trusted with, s the set whose secrets the person is shut out from.
-- Assumes nothing.
use Rattle.std.specs.Prelude.{ℕ, ◌≡◌, true, false}
use Rattle.principals.specs.Principals.{subset}
use Rattle.labels.specs.Label.{trusted, secret}
use Rattle.model.specs.Record.{State, Location, machine_of, value_at, label_at}
use Rattle.model.specs.WellFormed.{well_formed, lent_whole}
use Rattle.model.specs.Step.{running, decide, step}
use Rattle.model.specs.Seen.{exists, seen_by, SameSetting}
use Rattle.model.specs.Inner.Typed.{Typed}

-- A fit running record, lent its whole memory. Of its lists no more is asked than the types of the code say.
pub record Runs (a : State) : Type 0 where
  pub typed : Typed a
  pub fit : well_formed (machine_of a) ≡ true
  pub runs : running a ≡ true
  pub whole : lent_whole a.fixed.size a.memory ≡ true

-- Equal place, pair, clock and open calls.
pub record SamePoint (a b : State) : Type 0 where
  pub pc : a.control.pc ≡ b.control.pc
  pub pair : a.control.pair ≡ b.control.pair
  pub clock : a.control.clock ≡ b.control.clock
  pub first : a.control.first ≡ b.control.first
  pub second : a.control.second ≡ b.control.second

-- The two agree on which registers and words are trusted, and on their labels and values. The others may differ in all.
abbrev pub Agree : ℕ → State → State → Type 0
Agree j a b = (x : Location) → seen_by (trusted j) a x ≡ seen_by (trusted j) b x

-- A step carries out a relabelling of x from secret to not secret: its label is secret before the step, and not after it.
-- Nothing but a relabelling changes a label, and one that the limit or the end tick bars changes none.
pub record Releases (s : ℕ) (a : State) (x : Location) : Type 0 where
  pub there : exists a x ≡ true
  pub before : secret s (label_at a x) ≡ true
  pub after : secret s (label_at (step a) x) ≡ false

-- The step of b carries out the same one as that of a: both decide the same, x goes from the same label to the same label,
-- and its value is equal, before and after.
pub record SameRelease (a b : State) (x : Location) : Type 0 where
  pub decision : decide a ≡ decide b
  pub old : label_at a x ≡ label_at b x
  pub new : label_at (step a) x ≡ label_at (step b) x
  pub value : value_at a x ≡ value_at b x
  pub kept : value_at (step a) x ≡ value_at (step b) x

-- Take a person trusted with the set j and shut out from the secrets of the set s, where s isn't a subset of j. Take two fit
-- running records, each lent its whole memory, with equal size, gates, error place, limit, place, pair, clock and open
-- calls, that agree on what is trusted. If a step of the first carries out a relabelling from secret to not secret, the step of
-- the second carries out the same one, of the same location to the same label, and its value is equal.
abbrev pub Unsteered : Type 0
Unsteered =
    (j s : ℕ) → subset s j ≡ false → (a b : State) → Runs a → Runs b → SameSetting a b → SamePoint a b → Agree j a b
    → (x : Location) → Releases s a x → SameRelease a b x
