-- What the definitions of HEX images are held against: small images, worked out by hand, as one table, each row a test that
-- proofs/HexFacts.antt has the checker compute. A record is written here by a rule of its own.
-- Assumes nothing.
use Rattle.std.specs.Prelude.{ℕ, ◌+◌, ◌-◌, ◌/◌, ◌%◌, Bool, true, false, ◌&&◌, cond, List, [], ◌∷◌, ◌++◌, ltb, eqb, length}
use Rattle.causes.specs.Causes.{number_of}
use Rattle.model.specs.Record.{Bank, lent}
use Rattle.model.specs.Load.{Loading}
use Rattle.model.specs.HexLoad.{load_hex}

-- ---- records, written

-- The digit of a value below 16, in upper case.
abbrev pub upper_digit : ℕ → ℕ
upper_digit n = cond (ltb n 10) (48 + n) (55 + n)

-- The digits of some bytes.
abbrev pub upper_digits : List ℕ → List ℕ
upper_digits [] = []
upper_digits (b ∷ bs) = upper_digit (b / 16) ∷ upper_digit (b % 16) ∷ upper_digits bs

-- The sum of some bytes.
abbrev pub total : List ℕ → ℕ
total [] = 0
total (b ∷ bs) = b + total bs

-- A line with these bytes, which a check byte makes up to 0, less so many.
abbrev pub hex_line : ℕ → List ℕ → List ℕ
hex_line less bs = 58 ∷ upper_digits (bs ++ ((512 - total bs % 256 - less) % 256 ∷ [])) ++ (10 ∷ [])

-- Some bytes from an address on.
abbrev pub given : ℕ → List ℕ → List ℕ
given at bs = hex_line 0 (length bs ∷ at / 256 ∷ at % 256 ∷ 0 ∷ bs)

-- The end, with this address.
abbrev pub end_at : ℕ → List ℕ
end_at at = hex_line 0 (0 ∷ at / 256 ∷ at % 256 ∷ 1 ∷ [])

-- :01000400aa51 and CR LF: the byte 170 at address 4, with digits in lower case.
abbrev pub lower_case : List ℕ
lower_case =
    58 ∷ 48 ∷ 49 ∷ 48 ∷ 48 ∷ 48 ∷ 52 ∷ 48 ∷ 48 ∷ 97 ∷ 97 ∷ 53 ∷ 49 ∷ 13 ∷ 10 ∷ []

-- ---- images, loaded

-- M,2,0,0,240,240,5 and an LF: a machine of two words.
abbrev pub two_words : List ℕ
two_words =
    77 ∷ 44 ∷ 50 ∷ 44 ∷ 48 ∷ 44 ∷ 48 ∷ 44 ∷ 50 ∷ 52 ∷ 48 ∷ 44 ∷ 50 ∷ 52 ∷ 48 ∷ 44 ∷ 53 ∷ 10 ∷ []

-- A memory of three words that has other numbers in it.
abbrev pub used_memory : Bank
used_memory = lent (7 ∷ 7 ∷ 7 ∷ []) (9 ∷ 9 ∷ 9 ∷ [])

-- Two rows of numbers are the same.
abbrev pub same_row : List ℕ → List ℕ → Bool
same_row [] [] = true
same_row [] (y ∷ ys) = false
same_row (x ∷ xs) [] = false
same_row (x ∷ xs) (y ∷ ys) = eqb x y && same_row xs ys

-- The answer has this number and this line, and leaves these words and labels.
abbrev pub answers : Loading → ℕ → ℕ → List ℕ → List ℕ → Bool
answers a number line words labels =
    eqb (number_of a.outcome) number && eqb a.line line && same_row a.memory.values words
    && same_row a.memory.labels labels

-- The records, with label 34, are accepted and leave these words and labels, and a third of each.
abbrev pub gives : List ℕ → ℕ → ℕ → ℕ → ℕ → Bool
gives hex w x l m = answers (load_hex two_words hex 34 used_memory) 0 0 (w ∷ x ∷ 7 ∷ []) (l ∷ m ∷ 9 ∷ [])

-- The image is refused with this number and line, and leaves the memory.
abbrev pub refuses : List ℕ → List ℕ → ℕ → ℕ → Bool
refuses text hex number line = answers (load_hex text hex 34 used_memory) number line (7 ∷ 7 ∷ 7 ∷ []) (9 ∷ 9 ∷ 9 ∷ [])

-- ---- the table

-- Small images, and what comes of each.
abbrev pub hex_facts : List Bool
hex_facts =
    -- The lowest byte first; the label on the word that has a byte, and the lowest on the one that has none.
    gives (given 0 (1 ∷ 2 ∷ 3 ∷ 4 ∷ []) ++ end_at 0) 67305985 0 34 240
    -- A word of which one byte is given: the others are 0.
    ∷ gives (given 6 (5 ∷ []) ++ end_at 0) 0 327680 240 34
    -- Bytes in any order, and a record without one, wherever it stands. The address of the end isn't read.
    ∷ gives (given 5 (9 ∷ []) ++ given 65535 [] ++ given 4 (8 ∷ []) ++ end_at 4660) 0 2312 240 34
    -- Digits in lower case, and a line that CR and LF end.
    ∷ gives (lower_case ++ end_at 0) 0 170 240 34
    -- A byte behind the last one of memory, and one given twice.
    ∷ refuses two_words (given 7 (1 ∷ 2 ∷ []) ++ end_at 0) 12 1
    ∷ refuses two_words (given 3 (1 ∷ []) ++ given 3 (1 ∷ []) ++ end_at 0) 12 2
    -- A wrong sum, and a type that isn't known, before a byte outside memory on the same line.
    ∷ refuses two_words (hex_line 1 (1 ∷ 0 ∷ 8 ∷ 0 ∷ 1 ∷ []) ++ end_at 0) 11 1
    ∷ refuses two_words (hex_line 0 (1 ∷ 0 ∷ 8 ∷ 2 ∷ 1 ∷ []) ++ end_at 0) 11 1
    -- An end with a byte; none; something behind it.
    ∷ refuses two_words (hex_line 0 (1 ∷ 0 ∷ 0 ∷ 1 ∷ 0 ∷ [])) 11 1
    ∷ refuses two_words (given 0 (1 ∷ [])) 11 2
    ∷ refuses two_words (given 0 (1 ∷ []) ++ end_at 0 ++ end_at 0) 11 3
    -- A byte too few and one too many for the length; a line that doesn't end; an empty text.
    ∷ refuses two_words (hex_line 0 (2 ∷ 0 ∷ 0 ∷ 0 ∷ 1 ∷ []) ++ end_at 0) 11 1
    ∷ refuses two_words (hex_line 0 (0 ∷ 0 ∷ 0 ∷ 0 ∷ 1 ∷ []) ++ end_at 0) 11 1
    ∷ refuses two_words (58 ∷ upper_digits (0 ∷ 0 ∷ 0 ∷ 1 ∷ 255 ∷ [])) 11 1
    ∷ refuses two_words [] 11 1
    -- A second line of the M text, whatever it is, before the records.
    ∷ refuses (two_words ++ (10 ∷ [])) [] 4 2
    ∷ []
