-- `sprint::ops::common` meets its contract: for each op its turn, from the fields of the word and the op's number.
-- Assumes nothing.
use Rattle.std.proofs.Common.{◌≡◌, ℕ, ◌+◌, ◌<◌, ◌≤◌, List, get_or, refl, arith, lit≤, rules}
use mathlib.Core.Option.{some}
use Rattle.labels.specs.Label.{label_count}
use Rattle.model.specs.Record.{State}
use Rattle.model.specs.Word.{Op, Arithmetic, arithmetic, op_field, decode}
use Rattle.model.specs.Step.{Fetched, known, fetched}
use Rattle.parts.specs.declared.stages.Reason.TheVariants.{Rest}
use Rattle.turns.specs.declared.Turn.{Turn}
use Rattle.turns.specs.Turned.{Mirrors}
use Rattle.turns.specs.Turns.{taken, combined_taken}
use Rattle.turns.proofs.Assigning.{assigned_turn}
use Rattle.sprint.specs.Sprint.{state_with, Timed}
use Rattle.sprint.specs.Inner.Turns.{Common, Forward}
use Rattle.sprint.proofs.Numbering.{op_of, no_op, none_uncommon, uncommon}
use Rattle.sprint.proofs.Turning.{Here, Fields, immediate_turn, arithmetic_turn, load_turn, store_turn, branch_turn, jump_turn, clock_turn, stays}
use Rattle.model.proofs.Legal.{ticks_long}
use Rattle.sprint.proofs.LoopForward.{stopping_forward, timed_forward, gone_forward}
use Rattle.sprint.proofs.ops.common.Goals as goal
use Rattle.sprint.proofs.ops.common.Goals.{After-op_of}

-- ---- the places: the start, the fields of the word read, and its op known

-- The word.
abbrev word : After-op_of → ℕ
word c = c.args.spot.word

-- The state s with what the loop holds in its place.
abbrev held : After-op_of → State → List ℕ → State
held c s labels =
    let args = c.args in
    state_with s args.spot.context args.spot.pc args.spot.left args.values.now labels args.words.now args.marks.now

-- The loop's view fits it.
told : (c : After-op_of) (s : State) (labels : List ℕ) → Mirrors labels c.args.turned.now
    → c.args.spot.left ≤ c.args.spot.context.deadline + 1 → Timed (held c s labels) c.args.spot.context
    → Here s c.args.spot c.args.values.now labels c.args.turned.now
    c.args.words.now c.args.marks.now
told c s labels m l t = record { mirrors = m; left = l; short = omega (arith, c.requires); timed = t }

-- The numbers of the word's registers.
fields : (c : After-op_of)
    → Fields (word c) c.a_of-a.result c.b_of-b.result
fields c = record { ra = c.a_of-a.ensures.0; rb = c.b_of-b.ensures.0 }

-- Its op, where that has the number k.
op_is : (c : After-op_of) {f : Fetched} {k : ℕ} {op : Op} → f ≡ known (word c) (decode (op_field (word c)))
    → c.op_of.result ≡ k → decode k ≡ some op → f ≡ fetched (word c) op
op_is c f e d = op_of (word c) f c.op_of.ensures e d

-- ---- bounds of labels, which are bytes

-- The pc label.
pc_below : (c : After-op_of) → c.args.spot.context.pair.pc < label_count
pc_below c = search rules

-- The timing label.
timing_below : (c : After-op_of) → c.args.spot.context.pair.timing < label_count
timing_below c = search rules

-- The label of a word.
mark_below : (c : After-op_of) (i : ℕ) → get_or c.args.marks.now i 0 < label_count
mark_below c i = search rules

-- ---- an arithmetic op

-- Its turn, where the op has the number k.
combined : (c : After-op_of) {k : ℕ} {o : Arithmetic} {r : Turn} {values' : List ℕ} → c.op_of.result ≡ k
    → decode k ≡ some (arithmetic o)
    → taken r values' ≡ combined_taken o c.args.spot c.args.values.now c.args.turned.now
    → Common c.args.spot c.args.values.now c.args.turned.now
    c.args.words.now c.args.marks.now r values' c.args.words.now
    × Forward c.args.spot r
combined c {o = o} e d h = (
  λ s labels m l t f. arithmetic_turn (told c s labels m l t) (timing_below c) (op_is c f e d) h,
  timed_forward c.args.spot _ _ (ticks_long o _ _) (assigned_turn _ _ _ _ _ _ h),
)

-- ---- the needs

pub returns-in-0 : goal.returns-in-0
returns-in-0 c = (
  λ s labels m l t f. stays (held (goal.at.returns-in-0 c).After-op_of s labels) c.args.spot.context.deadline c.args.spot.left (Rest 0) refl (record { word = no_op c.args.spot.word f c.op_of.ensures c.in-0.is; within = c.requires; op = none_uncommon }),
  stopping_forward c.args.spot (Rest 0) refl,
)

pub returns-in-1 : goal.returns-in-1
unfolding decode
returns-in-1 c = (
  λ s labels m l t f. immediate_turn (told (goal.at.returns-in-1 c).After-op_of s labels m l t) (op_is (goal.at.returns-in-1 c).After-op_of f c.in-1.is refl) c.immediate.ensures,
  timed_forward c.args.spot 1 _ (lit≤ tt) (assigned_turn _ _ _ _ _ _ c.immediate.ensures),
)

pub returns-in-2 : goal.returns-in-2
unfolding decode
returns-in-2 c = combined (goal.at.returns-in-2 c).After-op_of c.in-2.is refl c.combine.ensures

pub returns-in-3 : goal.returns-in-3
unfolding decode
returns-in-3 c = combined (goal.at.returns-in-3 c).After-op_of c.in-3.is refl c.combine-in-3.ensures

pub returns-in-4 : goal.returns-in-4
unfolding decode
returns-in-4 c = combined (goal.at.returns-in-4 c).After-op_of c.in-4.is refl c.combine-in-4.ensures

pub returns-in-5 : goal.returns-in-5
unfolding decode
returns-in-5 c = combined (goal.at.returns-in-5 c).After-op_of c.in-5.is refl c.combine-in-5.ensures

pub returns-in-6 : goal.returns-in-6
unfolding decode
returns-in-6 c = combined (goal.at.returns-in-6 c).After-op_of c.in-6.is refl c.combine-in-6.ensures

pub returns-in-7 : goal.returns-in-7
unfolding decode
returns-in-7 c = combined (goal.at.returns-in-7 c).After-op_of c.in-7.is refl c.combine-in-7.ensures

pub returns-in-8 : goal.returns-in-8
unfolding decode
returns-in-8 c = combined (goal.at.returns-in-8 c).After-op_of c.in-8.is refl c.combine-in-8.ensures

pub returns-in-9 : goal.returns-in-9
unfolding decode
returns-in-9 c = (
  λ s labels m l t f. load_turn (told (goal.at.returns-in-9 c).After-op_of s labels m l t) (op_is (goal.at.returns-in-9 c).After-op_of f c.in-9.is refl) c.load.ensures,
  timed_forward c.args.spot 3 _ (lit≤ tt) c.load.ensures.turn,
)

pub returns-in-10 : goal.returns-in-10
unfolding decode
returns-in-10 c = (
  λ s labels m l t f. store_turn (told (goal.at.returns-in-10 c).After-op_of s labels m l t) (op_is (goal.at.returns-in-10 c).After-op_of f c.in-10.is refl) (mark_below (goal.at.returns-in-10 c).After-op_of _) c.store.ensures,
  timed_forward c.args.spot 3 _ (lit≤ tt) c.store.ensures.turn,
)

pub returns-in-11 : goal.returns-in-11
unfolding decode
returns-in-11 c = (
  λ s labels m l t f. branch_turn (told (goal.at.returns-in-11 c).After-op_of s labels m l t) (pc_below (goal.at.returns-in-11 c).After-op_of) (op_is (goal.at.returns-in-11 c).After-op_of f c.in-11.is refl) (fields (goal.at.returns-in-11 c).After-op_of) c.go.ensures c.may_go-ok.ensures c.lacking.ensures refl c.n_of.ensures,
  gone_forward c.args.spot _ _ _ c.go.ensures,
)

pub returns-in-12 : goal.returns-in-12
unfolding decode
returns-in-12 c = (
  λ s labels m l t f. branch_turn (told (goal.at.returns-in-12 c).After-op_of s labels m l t) (pc_below (goal.at.returns-in-12 c).After-op_of) (op_is (goal.at.returns-in-12 c).After-op_of f c.in-12.is refl) (fields (goal.at.returns-in-12 c).After-op_of) c.go-in-12.ensures c.may_go-ok-in-12.ensures c.lacking-in-12.ensures refl c.n_of-in-12.ensures,
  gone_forward c.args.spot _ _ _ c.go-in-12.ensures,
)

pub returns-in-13 : goal.returns-in-13
unfolding decode
returns-in-13 c = (
  λ s labels m l t f. jump_turn (told (goal.at.returns-in-13 c).After-op_of s labels m l t) (pc_below (goal.at.returns-in-13 c).After-op_of) (op_is (goal.at.returns-in-13 c).After-op_of f c.in-13.is refl) (fields (goal.at.returns-in-13 c).After-op_of) c.go-in-13.ensures c.may_go-ok-in-13.ensures c.lacking-in-13.ensures,
  gone_forward c.args.spot _ _ _ c.go-in-13.ensures,
)

pub returns-in-14 : goal.returns-in-14
unfolding decode
returns-in-14 c = (
  λ s labels m l t f. clock_turn (told (goal.at.returns-in-14 c).After-op_of s labels m l t) (op_is (goal.at.returns-in-14 c).After-op_of f c.in-14.is refl) c.read_clock.ensures,
  timed_forward c.args.spot 1 _ (lit≤ tt) (assigned_turn _ _ _ _ _ _ c.read_clock.ensures.assigned),
)

pub returns-in-23 : goal.returns-in-23
unfolding decode
returns-in-23 c = combined (goal.at.returns-in-23 c).After-op_of c.in-23.is refl c.combine-in-23.ensures

pub returns-in-24 : goal.returns-in-24
unfolding decode
returns-in-24 c = combined (goal.at.returns-in-24 c).After-op_of c.in-24.is refl c.combine-in-24.ensures

pub returns-in_default : goal.returns-in_default
returns-in_default c = (
  λ s labels m l t f. stays (held (goal.at.returns-in_default c).After-op_of s labels) c.args.spot.context.deadline c.args.spot.left (Rest c.args.spot.word) refl (record { word = f; within = c.requires; op = uncommon c.args.spot.word c.op_of.ensures (search rules) }),
  stopping_forward c.args.spot (Rest c.args.spot.word) refl,
)
