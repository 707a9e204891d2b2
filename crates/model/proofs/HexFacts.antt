-- The facts of HEX images hold, by computation.
-- Assumes nothing.
use mathlib.Core.Path.{◌≡◌, refl}
use mathlib.Core.Bool.{true}
use Rattle.causes.specs.Tests.{first_refusal}
use Rattle.model.specs.Text.{is_digit, digits, decimal_from, well_written, number, field, read_fields, field_count, line_of, read_line}
use Rattle.model.specs.Load.{header_in_range, header_tests, judge_m, judge_header}
use Rattle.model.specs.Hex.{digit_of, byte_of, bytes, sum, is_whole, address_of, record_of, line_end, read_record, records_in, records}
use Rattle.model.specs.HexLoad.{judge_alone, is_free, give, judge_records, byte_at, word_at, is_given, has_byte, word_label, firsts, placed, load_hex}
use Rattle.model.specs.Facts.{every}
use Rattle.model.specs.HexFacts.{hex_facts}
use Rattle.model.proofs.Facts.{stepping}

-- Every row of the table.
pub hex_facts_hold : every hex_facts ≡ true
unfolding stepping is_digit digits decimal_from well_written number field read_fields field_count line_of read_line header_in_range header_tests judge_m judge_header first_refusal digit_of byte_of bytes sum is_whole address_of record_of line_end read_record records_in records judge_alone is_free give judge_records byte_at word_at is_given has_byte word_label firsts placed load_hex
hex_facts_hold = refl
