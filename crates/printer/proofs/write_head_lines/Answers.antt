-- `printer::write_head_lines` meets its contract. One line behind the other.
-- Assumes nothing.
use Prim.Native.Nat.{◌≤◌}
use native.Mathlib.Omega.{arith}
use Rattle.model.specs.Numbers.{letter_e}
use Rattle.model.specs.Listing.{line, end_fields, head_lines}
use Rattle.texts.proofs.Fields.{line_most}
use Rattle.printer.specs.Inner.Placing.{Placed}
use Rattle.texts.proofs.Listing.{call_most}
use Rattle.printer.proofs.Places.{placed_then}
use Rattle.printer.proofs.write_head_lines.Goals as goal
use Rattle.printer.proofs.write_head_lines.Goals.{After-write_line_at-at}

-- The E line is written.
end_line : (c : After-write_line_at-at)
    → Placed (line letter_e (end_fields c.args.control))
    c.args.out.now 0 c.write_line_at-at.result c.write_line_at-at.new.out
end_line c = rw c.end_fields-numbers.ensures at c.write_line_at-at.ensures

-- It ends within 128 bytes.
end_place : (c : After-write_line_at-at) → c.write_line_at-at.result ≤ 128
end_place c =
    omega (arith, (end_line c).place, line_most letter_e (end_fields c.args.control))

pub write_call-at-requires : goal.write_call-at-requires
write_call-at-requires c = omega (arith, end_place (goal.at.write_call-at-requires c).After-write_line_at-at)

pub write_call-requires : goal.write_call-requires
write_call-requires c =
    omega (
      arith,
      end_place (goal.at.write_call-requires c).After-write_line_at-at,
      c.write_call-at.ensures.place,
      call_most c.args.control.first,
      call_most c.args.control.second,
    )

pub returns : goal.returns
unfolding head_lines
returns c =
    placed_then
    (placed_then (end_line (goal.at.returns c).After-write_line_at-at)
    c.write_call-at.ensures)
    c.write_call.ensures
