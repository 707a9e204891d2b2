-- `hexreader::record_end` meets its contract: a record that isn't whole or whose line doesn't end has no end.
-- Assumes nothing.
use Prim.Native.Nat.{◌+◌, ◌*◌, ◌≤◌}
use mathlib.Core.Path.{◌≡◌, sym, ◌∙◌}
use native.Mathlib.Omega.{arith}
use lib.ListN.{length, get_or}
use Rattle.std.proofs.lemmas.Option.{get_or_from_slice_get}
use Rattle.texts.proofs.Text.{reaches}
use Rattle.hexreader.proofs.Laws.{no_colon, not_full, digits_within, end_within, open_line, closed_line}
use Rattle.hexreader.proofs.record_end.Goals as goal
use Rattle.hexreader.proofs.record_end.Goals.{In_ok-digits, In_ok-first}

-- What it begins with.
begins : (c : In_ok-first) → get_or c.args.text.now 0 0 ≡ c.in_ok-first.field-0.now
begins c = get_or_from_slice_get c.args.text.now 0 _ 0 (sym c.in_ok-first.ensures.value)

pub returns-in_err-first : goal.returns-in_err-first
returns-in_err-first c =
    rw c.from_residual.ensures
    (no_colon c.args.text.now (λ e. omega (arith, reaches c.args.text.now 0 58 e (omega arith), c.in_err-first.ensures.item.3)))

pub returns-then-branch-ne-COLON : goal.returns-then-branch-ne-COLON
returns-then-branch-ne-COLON c =
    no_colon c.args.text.now
    (λ e. c.if-branch-ne-COLON.true (sym (begins (goal.at.returns-then-branch-ne-COLON c).In_ok-first) ∙ e))

-- Its digits lie in the text.
within : (c : In_ok-digits) → 1 + 2 * c.in_ok-digits.field-0 ≤ length c.args.text.now
within c = digits_within c.args.text.now c.in_ok-digits.field-0 c.in_ok-digits.ensures

-- It begins with a colon.
colon : (c : In_ok-digits) → get_or c.args.text.now 0 0 ≡ 58
colon c = begins (goal.at.In_ok-digits c).In_ok-first ∙ c.if-branch-ne-COLON.false

pub returns-in_err-digits : goal.returns-in_err-digits
returns-in_err-digits c =
    rw c.from_residual-in_err-digits.ensures
    (not_full c.args.text.now
    (begins (goal.at.returns-in_err-digits c).In_ok-first ∙ c.if-branch-ne-COLON.false)
    c.in_err-digits.ensures)

pub overflow_mul-digits : goal.overflow_mul-digits
overflow_mul-digits c = omega (arith, within c)

pub overflow_add-digits : goal.overflow_add-digits
overflow_add-digits c = omega (arith, within c)

pub slice_bounds-line_end-count : goal.slice_bounds-line_end-count
slice_bounds-line_end-count c = within c

pub slice_bounds-line_end-start : goal.slice_bounds-line_end-start
slice_bounds-line_end-start c = omega (arith, within c)

pub returns-in_err-end : goal.returns-in_err-end
returns-in_err-end c =
    rw c.from_residual-in_err-end.ensures
    (open_line c.args.text.now _ c.in_ok-digits.ensures (colon (goal.at.returns-in_err-end c).In_ok-digits) c.in_err-end.ensures)

pub overflow_add-result : goal.overflow_add-result
overflow_add-result c =
    omega (arith, end_within c.args.text.now _ c.in_ok-digits.ensures _ c.in_ok-end.ensures)

pub returns : goal.returns
returns c =
    closed_line c.args.text.now _ c.in_ok-digits.ensures (colon (goal.at.returns c).In_ok-digits) _ c.in_ok-end.ensures
