-- The records of a HEX text: its first record and the records of the rest, judged one by one.
-- Assumes nothing.
use Prim.Native.Nat.{ℕ, ◌≤◌, ◌<◌}
use mathlib.Core.Path.{◌≡◌, refl, sym, ap, ◌∙◌}
use mathlib.Core.List.{List, [], ◌∷◌}
use native.Mathlib.Omega.{arith}
use lib.ListN.{length, drop}
use Rattle.model.specs.Hex.{HexRecord, Data, End, Bad, read_record, onwards, records_in, records}
use Rattle.model.specs.HexLoad.{judge_records}
use Rattle.texts.proofs.Hex.{sized}
use Rattle.texts.proofs.Pieces.{Pieces, first_of}

-- ---- the first record and the records of the rest

-- The records behind one matter only where it isn't bad.
onwards_same : (r : HexRecord) (rs qs : List HexRecord) → ((r ≡ Bad → ⊥) → rs ≡ qs) → onwards r rs ≡ onwards r qs
onwards_same (Data at bs) rs qs h =
    ap (λ (z : List HexRecord). Data at bs ∷ z) (h (λ x. let z : ◌≡◌ {A = ℕ} 0 1 = cc in omega arith))
onwards_same End rs qs h = ap (λ (z : List HexRecord). End ∷ z) (h (λ x. let z : ◌≡◌ {A = ℕ} 0 1 = cc in omega arith))
onwards_same Bad rs qs h = refl

-- Records are read one by one, each from where the last one ended.
record_pieces : Pieces records_in (λ xs rs. onwards (read_record xs).found rs) (λ xs. (read_record xs).next) (λ xs. (read_record xs).found ≡ Bad → ⊥)
unfolding records_in
record_pieces =
    record {
      none = λ xs. refl;
      empty = λ k. refl;
      more = λ k b xs. refl;
      same = λ xs. onwards_same (read_record xs).found;
      moves = λ xs g. let two = (sized xs).moves g in omega arith;
    }

-- The records of a text that isn't empty: its first record and the records of the rest.
pub records_first : (xs : List ℕ) → 0 < length xs
    → records xs ≡ onwards (read_record xs).found (records (drop (read_record xs).next xs))
unfolding records
records_first = first_of record_pieces

-- An empty text has none.
pub no_records : (xs : List ℕ) → length xs ≤ 0 → records xs ≡ []
unfolding records records_in
no_records [] h = refl
no_records (b ∷ xs) h = absurd (omega arith)

-- A text that isn't empty has one at least.
pub some_records : (xs : List ℕ) → 0 < length xs → (records xs ≡ []) → ⊥
some_records xs h e = onwards_some (read_record xs).found _ (sym (records_first xs h) ∙ e)
  where
    onwards_some : (r : HexRecord) (rs : List HexRecord) → onwards r rs ≡ [] → ⊥
    onwards_some (Data at bs) rs e = let z : ◌≡◌ {A = ℕ} 0 1 = cc in omega arith
    onwards_some End rs e = let z : ◌≡◌ {A = ℕ} 0 1 = cc in omega arith
    onwards_some Bad rs e = let z : ◌≡◌ {A = ℕ} 0 1 = cc in omega arith

-- ---- judged

-- A bad record is refused whatever is behind it.
judge_onwards : (n : ℕ) (r : HexRecord) (rs : List HexRecord) (places : List ℕ)
    → judge_records n (onwards r rs) places ≡ judge_records n (r ∷ rs) places
unfolding judge_records
judge_onwards n (Data at bs) rs places = refl
judge_onwards n End rs places = refl
judge_onwards n Bad rs places = refl

-- A text is judged by its first record, then the records of the rest.
pub judge_first_lem : (n : ℕ) (xs places : List ℕ) → 0 < length xs
    → judge_records n (records xs) places
    ≡ judge_records n ((read_record xs).found ∷ records (drop (read_record xs).next xs)) places
judge_first_lem n xs places h =
    ap (λ (rs : List HexRecord). judge_records n rs places) (records_first xs h)
    ∙ judge_onwards n (read_record xs).found (records (drop (read_record xs).next xs)) places
