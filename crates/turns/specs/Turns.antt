-- What the ops on registers do in the hot loop, as their functions promise it: by equation, in the words of the model.
-- Assumes nothing.
use Rattle.std.specs.Prelude.{ℕ, ◌+◌, ◌%◌, ◌^◌, Bool, cond, not, ◌&&◌, List, bit_or, nat_lt, slice_index, slice_set}
use Rattle.principals.specs.Principals.{may_go}
use Rattle.labels.specs.Label.{restrictions, lacking}
use Rattle.model.specs.Numbers.{register_count}
use Rattle.model.specs.Word.{Arithmetic, a_field, b_field, c_field, n_field, compute}
use Rattle.model.specs.Ops.{writable, arithmetic_ticks}
use Rattle.parts.specs.declared.stages.Reason.TheVariants.{Late, Failed}
use Rattle.turns.specs.declared.Spot.{Spot}
use Rattle.turns.specs.declared.Turn.{Turn}
use Rattle.turns.specs.declared.Turn.TheVariants.{Going, Stopping}

-- The pc behind a fetched word, in 32 bits.
unfoldable pub next : Spot → ℕ
next spot = (spot.pc + 1) % 2 ^ 32

-- An op of so many ticks that goes on at pc, if it finishes by the deadline.
abbrev pub timed : ℕ → ℕ → ℕ → Turn
timed ticks pc left = cond (nat_lt ticks left) (Going pc ticks) (Stopping Late)

-- A branch or jump.
unfoldable pub gone : Spot → Bool → Bool → ℕ → Turn
gone spot ok taken target =
    cond (ok && taken) (timed 1 target spot.left)
    (cond (not ok && spot.context.up) (Stopping Failed) (timed 1 (next spot) spot.left))

-- A turn and the values of the registers behind it.
pub record Taken : Type 0 where
  pub turn : Turn
  pub values : List ℕ

-- These two.
abbrev pub taken : Turn → List ℕ → Taken
taken turn values = record { turn = turn; values = values }

-- Register a gets v if the op finishes by the deadline, the check passed, it isn't register 0 and there is one.
unfoldable pub assigned : List ℕ → ℕ → Bool → ℕ → ℕ → Spot → Taken
assigned before a ok v ticks spot =
    taken (timed ticks (next spot) spot.left)
    (cond (nat_lt ticks spot.left) (cond (ok && writable a && nat_lt a register_count) (slice_set before a v) before) before)

-- Op 1: register a gets n.
abbrev pub immediate_taken : Spot → List ℕ → List ℕ → Taken
immediate_taken spot before turned =
    let w = spot.word in
    assigned before (a_field w) (may_go (restrictions spot.context.pair.pc) (slice_index turned (a_field w + register_count))) (n_field w) 1 spot

-- An arithmetic op: register a gets what f computes from the registers b and c, as the model's row has it.
abbrev pub combined_taken : Arithmetic → Spot → List ℕ → List ℕ → Taken
combined_taken f spot before turned =
    let w = spot.word in
    let both = bit_or (slice_index turned (b_field w)) (slice_index turned (c_field w)) in
    assigned before (a_field w) (may_go (bit_or (restrictions spot.context.pair.pc) both) (slice_index turned (a_field w + register_count)))
    (compute f (slice_index before (b_field w)) (slice_index before (c_field w)))
    (arithmetic_ticks f (may_go both (lacking spot.context.pair.timing)) (slice_index before (c_field w))) spot
