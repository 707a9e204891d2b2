-- `hexreader::record_of` meets its contract: its head stands in the text, and there is a case for each type.
-- Assumes nothing.
use mathlib.Core.Path.{refl}
use native.Mathlib.Omega.{arith}
use Rattle.hexreader.proofs.Laws.{byte_there, given_told, end_told, bad_told}
use Rattle.hexreader.proofs.record_of.Goals as goal

pub returns-in_err-count : goal.returns-in_err-count
returns-in_err-count c =
    absurd (byte_there c.args.text.now 0 1 (omega (arith, c.requires)) refl c.in_err-count.ensures)

pub returns-in_err-high : goal.returns-in_err-high
returns-in_err-high c = absurd (byte_there c.args.text.now 1 3 (omega (arith, c.requires)) refl c.in_err-high.ensures)

pub returns-in_err-low : goal.returns-in_err-low
returns-in_err-low c = absurd (byte_there c.args.text.now 2 5 (omega (arith, c.requires)) refl c.in_err-low.ensures)

pub returns-in_err-byte_at : goal.returns-in_err-byte_at
returns-in_err-byte_at c =
    absurd (byte_there c.args.text.now 3 7 (omega (arith, c.requires)) refl c.in_err-byte_at.ensures)

pub returns-in-0 : goal.returns-in-0
returns-in-0 c =
    given_told c.args.text.now c.requires c.in_ok-count.ensures c.in_ok-high.ensures c.in_ok-low.ensures
    c.in_ok-byte_at.ensures _ (omega arith) c.in-0.is

pub returns-in-1 : goal.returns-in-1
returns-in-1 c =
    end_told c.args.text.now c.requires c.in_ok-count.ensures c.in_ok-high.ensures c.in_ok-low.ensures
    c.in_ok-byte_at.ensures c.in-1.is (omega arith)

pub returns-in_default : goal.returns-in_default
returns-in_default c =
    bad_told c.args.text.now c.requires c.in_ok-count.ensures c.in_ok-high.ensures c.in_ok-low.ensures
    c.in_ok-byte_at.ensures (λ e. omega (arith, c.in-1.is)) (λ e f. omega arith)

pub returns-in_default-2 : goal.returns-in_default-2
returns-in_default-2 c =
    bad_told c.args.text.now c.requires c.in_ok-count.ensures c.in_ok-high.ensures c.in_ok-low.ensures
    c.in_ok-byte_at.ensures (λ e. omega arith) (λ e f. omega arith)
