-- Fields: one more behind those before it, and how long they are.
-- Assumes nothing.
use Prim.Native.Nat.{ℕ, ◌+◌, ◌*◌, ◌<◌, ◌≤◌}
use mathlib.Core.Path.{◌≡◌, refl, ap}
use mathlib.Core.List.{List, [], ◌∷◌, ◌++◌, append_assoc, append-nil}
use native.Mathlib.Numerals.{add-one}
use native.Mathlib.Omega.{arith}
use lib.ListN.{length, take, drop, get_or, length-append, take-append-drop}
use lib.Seq.{take-suc}
use Rattle.std.specs.List.{sum_by}
use Rattle.std.proofs.lemmas.List.Recursion.{is_sum_by}
use Rattle.model.specs.Listing.{decimal, fields, line}
use Rattle.texts.proofs.Decimal.{most_digits_lem}

-- Fields of two lists, one behind the other.
fields_append : (xs ys : List ℕ) → fields (xs ++ ys) ≡ fields xs ++ fields ys
unfolding fields
fields_append [] ys = refl
fields_append (x ∷ xs) ys = rw (fields_append xs ys, append_assoc)

-- One field more.
pub fields_more : (ns : List ℕ) (i : ℕ) → i < length ns
    → fields (take (i + 1) ns) ≡ fields (take i ns) ++ (44 ∷ decimal (get_or ns i 0))
unfolding fields
fields_more ns i h = rw (add-one, take-suc ns i 0 h, fields_append, append-nil)

-- Some of the fields are no longer than all.
pub fields_part : (ns : List ℕ) (i : ℕ) → length (fields (take i ns)) ≤ length (fields ns)
fields_part ns i =
    let e = simp length-append at (ap length (fields_append (take i ns) (drop i ns))) in
    let f = ap (λ (xs : List ℕ). length (fields xs)) (take-append-drop i ns) in
    omega arith

-- A field is at most a comma and twenty digits.
pub fields_most : (ns : List ℕ) → length (fields ns) ≤ 21 * length ns
unfolding fields
fields_most [] = omega arith
fields_most (n ∷ ns) = simp length-append (omega (arith, fields_most ns, most_digits_lem n))

-- Together they take a comma and the digits of each.
pub fields_sum : (ns : List ℕ) → length (fields ns) ≡ sum_by (λ n. 1 + length (decimal n)) ns
unfolding fields
fields_sum =
    is_sum_by (λ ns. length (fields ns)) (λ n. 1 + length (decimal n)) refl (λ n ns. simp length-append (omega arith))

-- A line is its letter, its fields and an LF.
pub line_length : (letter : ℕ) (ns : List ℕ) → length (line letter ns) ≡ 2 + length (fields ns)
unfolding line
line_length letter ns = simp length-append (omega arith)

-- The length with one field more.
pub length_more : (ns : List ℕ) (i sum count : ℕ) → i < length ns → sum ≡ length (fields (take i ns))
    → count ≡ length (decimal (get_or ns i 0)) → sum + (1 + count) ≡ length (fields (take (i + 1) ns))
length_more ns i sum count h e f = rw (fields_more ns i h) (simp length-append (omega arith))

-- There is room for one field more.
pub field_room : (ns : List ℕ) (i : ℕ) → i < length ns
    → length (fields (take i ns)) + (1 + length (decimal (get_or ns i 0))) ≤ length (fields ns)
field_room ns i h =
    let e = length_more ns i (length (fields (take i ns))) (length (decimal (get_or ns i 0))) h refl refl in
    omega (arith, fields_part ns (i + 1))

-- A line takes at most a letter, twenty-one bytes for each field, and an LF.
pub line_most : (letter : ℕ) (ns : List ℕ) → length (line letter ns) ≤ 2 + 21 * length ns
line_most letter ns = omega (arith, line_length letter ns, fields_most ns)

-- ---- lines of three, five and six fields

pub three_fields : (letter a b c : ℕ)
    → length (line letter (a ∷ b ∷ c ∷ [])) ≡ 5 + length (decimal a) + length (decimal b) + length (decimal c)
unfolding line fields
three_fields letter a b c = simp length-append (omega arith)

pub five_fields : (letter a b c d e : ℕ)
    → length (line letter (a ∷ b ∷ c ∷ d ∷ e ∷ []))
    ≡ 7 + length (decimal a) + length (decimal b) + length (decimal c) + length (decimal d) + length (decimal e)
unfolding line fields
five_fields letter a b c d e = simp length-append (omega arith)

pub six_fields : (letter a b c d e f : ℕ)
    → length (line letter (a ∷ b ∷ c ∷ d ∷ e ∷ f ∷ []))
    ≡ 8 + length (decimal a) + length (decimal b) + length (decimal c) + length (decimal d) + length (decimal e)
    + length (decimal f)
unfolding line fields
six_fields letter a b c d e f = simp length-append (omega arith)
