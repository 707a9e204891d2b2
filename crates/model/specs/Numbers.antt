-- The numbers and letters of document 01, each with its name. The code gives its constants the same names.
-- Assumes nothing.
use Rattle.std.specs.Prelude.{ℕ, ◌^◌}

-- ---- the record

-- The most words of memory.
abbrev pub most_words : ℕ
most_words = 2048

-- The most ticks of a limit.
abbrev pub most_ticks : ℕ
most_ticks = 2 ^ 24

-- The most gates.
abbrev pub most_gates : ℕ
most_gates = 8

-- How many registers there are.
abbrev pub register_count : ℕ
register_count = 16

-- The register that always reads 0 with the lowest label.
abbrev pub zero_register : ℕ
zero_register = 0

-- Values and pcs are below this number.
abbrev pub value_count : ℕ
value_count = 2 ^ 32

-- ---- how a run ended, and why it stalled

-- End 1: halted.
abbrev pub halted : ℕ
halted = 1

-- End 2: the clock is spent.
abbrev pub clock_spent : ℕ
clock_spent = 2

-- End 3: stalled.
abbrev pub stalled : ℕ
stalled = 3

-- Why 1: the pc is not below the size.
abbrev pub outside_memory : ℕ
outside_memory = 1

-- Why 2: the word's label doesn't flow to p.
abbrev pub unreadable : ℕ
unreadable = 2

-- Why 3: the op is unknown.
abbrev pub unknown_op : ℕ
unknown_op = 3

-- ---- why an upcall was closed

-- Cause 1: op 19.
abbrev pub by_its_end : ℕ
by_its_end = 1

-- Cause 2: its time was spent.
abbrev pub by_spent_time : ℕ
by_spent_time = 2

-- Cause 3: a failed fetch, branch or jump, or a halt.
abbrev pub by_failure : ℕ
by_failure = 3

-- ---- letters, by their bytes

-- What stands before a field.
abbrev pub comma : ℕ
comma = 44

-- What ends a line.
abbrev pub lf : ℕ
lf = 10

-- The first of the ten digits.
abbrev pub digit_zero : ℕ
digit_zero = 48

-- The last of the ten digits.
abbrev pub digit_nine : ℕ
digit_nine = 57

-- The line of the machine.
abbrev pub letter_m : ℕ
letter_m = 77

-- The line of a gate.
abbrev pub letter_g : ℕ
letter_g = 71

-- The line of a register, in a text and in a listing.
abbrev pub letter_r : ℕ
letter_r = 82

-- The line of a word of memory, in a text and in a listing.
abbrev pub letter_w : ℕ
letter_w = 87

-- The line of a listing that tells how the run ended.
abbrev pub letter_e : ℕ
letter_e = 69

-- The line of an open call.
abbrev pub letter_f : ℕ
letter_f = 70

-- The line of a listing for one viewer that stands for the E and F lines, where the viewer doesn't see them.
abbrev pub letter_h : ℕ
letter_h = 72

-- The line of a refused text.
abbrev pub letter_x : ℕ
letter_x = 88

-- The line of a certificate.
abbrev pub letter_v : ℕ
letter_v = 86

-- ---- letters of Intel HEX, by their bytes

-- What a record begins with.
abbrev pub colon : ℕ
colon = 58

-- What may stand before an LF.
abbrev pub cr : ℕ
cr = 13

-- The digit of 10, in upper case.
abbrev pub upper_a : ℕ
upper_a = 65

-- The digit of 15, in upper case.
abbrev pub upper_f : ℕ
upper_f = 70

-- The digit of 10, in lower case.
abbrev pub lower_a : ℕ
lower_a = 97

-- The digit of 15, in lower case.
abbrev pub lower_f : ℕ
lower_f = 102

-- ---- the kinds of a call, as an F line tells them

-- A gate call.
abbrev pub gate_kind : ℕ
gate_kind = 1

-- An upcall.
abbrev pub upcall_kind : ℕ
upcall_kind = 2

-- ---- limits

-- The most fields of a line.
abbrev pub most_fields : ℕ
most_fields = 6

-- The most digits of a number that is read.
abbrev pub most_digits : ℕ
most_digits = 10

-- The most bytes of a text.
abbrev pub longest_text : ℕ
longest_text = 65535

-- ---- the bytes of Intel HEX

-- Bytes are below this number, which stands where there is none.
abbrev pub no_byte : ℕ
no_byte = 256

-- Hexadecimal digits are below this number, which stands where there is none.
abbrev pub no_digit : ℕ
no_digit = 16

-- How many bytes make a word.
abbrev pub word_bytes : ℕ
word_bytes = 4

-- How many bytes of a record stand before those that it gives: length, address and type.
abbrev pub record_head : ℕ
record_head = 4

-- How many bytes a record has besides those that it gives: these and the check byte.
abbrev pub record_frame : ℕ
record_frame = 5
