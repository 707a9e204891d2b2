-- `loader::judge_lines` meets its contract: the verdict on the lines that are left is the verdict on all, and with their
-- words those of all lines are kept. Each turn takes a line, of a byte at least.
-- Assumes nothing.
use Prim.Native.Nat.{ℕ, ◌+◌, ◌≤◌}
use mathlib.Core.Path.{refl, ap}
use mathlib.Core.List.{List}
use native.Mathlib.Omega.{arith}
use lib.ListN.{length}
use Rattle.machine_record.specs.Struct.{record_of}
use Rattle.model.specs.Record.{Machine, lent}
use Rattle.model.specs.Load.{Verdict}
use Rattle.header.specs.Loading.{headed}
use Rattle.loader.proofs.Behind.{refused_lines}
use Rattle.loader.proofs.Reading.{At, read_at, judged_refused, Accepted, accepted_moves, accepted_taken, accepted_stored, judged_more, kept_more, judged_end, kept_end}
use Rattle.loader.proofs.judge_lines.Goals as goal
use Rattle.loader.proofs.judge_lines.Goals.{After-read_line-read, After-store_word, At-loop-at, In_default}

pub loop-at-init : goal.loop-at-init
loop-at-init c =
    (record { counted = omega arith; size = refl; same = refl }, record { words = refl; labels = refl; same = refl })

pub slice_bounds-read_line-start : goal.slice_bounds-read_line-start
slice_bounds-read_line-start c = omega arith

-- The text.
abbrev text_of : At-loop-at → List ℕ
text_of c = c.args.text.now

-- The line that was read.
line_at : (c : After-read_line-read)
    → At (text_of (goal.at.After-read_line-read c).At-loop-at) c.loop-at.at c.read_line-read.result
line_at c = read_at _ _ _ c.loop-at-test.true c.read_line-read.ensures

pub shape_of-words-in-Err : goal.shape_of-words-in-Err
shape_of-words-in-Err c = c.loop-at.invariant.1.words

pub shape_of-labels-in-Err : goal.shape_of-labels-in-Err
shape_of-labels-in-Err c = c.loop-at.invariant.1.labels

pub returns-in-Err : goal.returns-in-Err
returns-in-Err c =
    let loop = c.loop-at in
    refused_lines _ _ _ _ _ (lent loop.words loop.labels)
    (judged_refused _ (line_at (goal.at.returns-in-Err c).After-read_line-read) c.in-Err.ensures loop.invariant.0)

-- The head of the loop, where a line was accepted.
abbrev head : In_default → At-loop-at
head c = (goal.at.In_default c).At-loop-at

-- The line is accepted.
accepted : (c : In_default)
    → Accepted (text_of (head c)) (head c).loop-at.at (record_of (head c).loop-at.machine) (head c).loop-at.last
    c.read_line-read.result
accepted c =
    record { here = line_at (goal.at.In_default c).After-read_line-read; passes = c.in_default.ensures }

pub with_line-machine-requires : goal.with_line-machine-requires
with_line-machine-requires c = accepted_taken (accepted (goal.at.with_line-machine-requires c).In_default)

-- There is room for the machine's words.
room : (c : At-loop-at)
    → ((record_of c.loop-at.machine).fixed.size ≤ length c.loop-at.words)
    × ((record_of c.loop-at.machine).fixed.size ≤ length c.loop-at.labels)
room c =
    let lent = c.requires.size_in_bounds in
    let size = c.loop-at.invariant.0.size in
    (omega (arith, size, lent.0, c.loop-at.invariant.1.words), omega (arith, size, lent.1, c.loop-at.invariant.1.labels))

pub store_word-requires : goal.store_word-requires
store_word-requires c =
    let told = (goal.at.store_word-requires c).In_default in
    record {
      line_value = accepted_stored (accepted told) _ (room (head told)).0;
      line_value_2 = accepted_stored (accepted told) _ (room (head told)).1;
    }

-- Where the word was stored, the line had been accepted.
abbrev told : After-store_word → In_default
told c = (goal.at.After-store_word c).In_default

-- The text is short, and the line ends in it.
ends : (c : After-store_word)
    → (length (text_of (head (told c))) ≤ 65535)
    × ((head (told c)).loop-at.at + (told c).read_line-read.result.next ≤ length (text_of (head (told c))))
ends c = ((head (told c)).requires.text_len_bound, (accepted (told c)).here.within)

pub overflow_add-at : goal.overflow_add-at
overflow_add-at c = omega (arith, ends (goal.at.overflow_add-at c).After-store_word)

pub overflow_add-number : goal.overflow_add-number
overflow_add-number c =
    omega (arith, ends (goal.at.overflow_add-number c).After-store_word, (head (told (goal.at.overflow_add-number c).After-store_word)).loop-at.invariant.0.counted)

pub loop-at-smaller : goal.loop-at-smaller
loop-at-smaller c =
    let line = accepted (told (goal.at.loop-at-smaller c).After-store_word) in
    omega (arith, line.here, accepted_moves line)

pub loop-at-preserved : goal.loop-at-preserved
loop-at-preserved c =
    let line = accepted (told (goal.at.loop-at-preserved c).After-store_word) in
    let before = (head (told (goal.at.loop-at-preserved c).After-store_word)).loop-at.invariant in
    let kept = c.store_word.auto in (
      judged_more line _ _ before.0 c.with_line-machine.ensures
          c.last_of-last.ensures,
      kept_more line _ _ before.1 c.store_word.ensures kept.words kept.labels,
    )

pub shape_of-words : goal.shape_of-words
shape_of-words c = c.loop-at.invariant.1.words

pub shape_of-labels : goal.shape_of-labels
shape_of-labels c = c.loop-at.invariant.1.labels

pub returns : goal.returns
returns c =
    let end = c.loop-at in
    record {
      answer =
          λ w l. ap (λ (v : Verdict Machine). headed v (lent w l))
          (judged_end _ _ _ (record_of end.machine) _ _ _ end.invariant.0 c.loop-at-test.false);
      kept = kept_end _ _ _ _ _ _ _ end.invariant.1 c.loop-at-test.false;
    }
