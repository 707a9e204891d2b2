-- The records read one after the other: what holds at each, while it is judged and its bytes are given.
-- Assumes nothing.
use Prim.Native.Nat.{ℕ, ◌+◌, ◌-◌, ◌*◌, ◌≤◌, ◌<◌}
use mathlib.Core.Path.{◌≡◌, refl, sym, ap, ◌∙◌}
use mathlib.Core.List.{List, [], ◌∷◌}
use native.Mathlib.Omega.{arith}
use lib.ListN.{length, take, drop, length-take, length-drop}
use lib.Seq.{drop-drop}
use Rattle.std.specs.Prelude.{Some, None, Result, Ok, Err, IsErrAnd}
use Rattle.causes.specs.declared.Cause.{Cause}
use Rattle.causes.specs.declared.Cause.TheVariants.{MalformedRecord}
use Rattle.model.specs.Hex as hex
use Rattle.model.specs.Hex.{bytes, HexRecord, HexRead, read_record, records}
use Rattle.model.specs.Load.{Verdict, refuse, accept, ◌and_then◌}
use Rattle.model.specs.HexLoad.{give, judge_records}
use Rattle.texts.proofs.Text.{part}
use Rattle.texts.proofs.Hex.{sized, data_length}
use Rattle.texts.proofs.Records.{judge_first_lem, no_records, some_records}
use Rattle.header.specs.declared.Refusal.{Refusal}
use Rattle.hexreader.specs.declared.Found.{Found}
use Rattle.hexreader.specs.declared.Found.TheVariants.{Data, End}
use Rattle.hexreader.specs.declared.Read.{Read}
use Rattle.hexreader.specs.Reading.{record_in, read_in}

-- ---- a record that was read

-- The record read at `at` is the first of the rest of the text.
pub record At (text : List ℕ) (at : ℕ) (r : Read) : Type 0 where
  pub more : 0 < length (drop at text)
  pub reads : read_record (drop at text) ≡ read_in (drop at text) r
  pub within : at + r.next ≤ length text
  pub behind : drop r.next (drop at text) ≡ drop (at + r.next) text

-- The reader is lent the part of the text from `at` on.
pub read_at : (text : List ℕ) (at : ℕ) (r : Read) → at < length text
    → read_in (take (length text - at) (drop at text)) r ≡ read_record (take (length text - at) (drop at text)) → At text at r
read_at text at r h e =
    let q : read_record (drop at text) ≡ read_in (drop at text) r = sym (rw (part at text) at e) in
    let w : r.next ≤ length (drop at text) = rw q at (sized (drop at text)).within in
    record {
      more = omega (arith, length-drop at text);
      reads = q;
      within = omega (arith, length-drop at text);
      behind = drop-drop r.next at text;
    }

-- What was found, by its kind.
pub found_is : (r : Read) (f g : Found) → r.found ≡ Some f → f ≡ g → r.found ≡ Some g
found_is r f g e k = e ∙ ap Some k

module _ {text : List ℕ} {at : ℕ} {r : Read} (a : At text at r) {address count : ℕ} (e : r.found ≡ Some (Data address count)) where
  -- What it gives.
  abbrev data_of : List ℕ
  data_of = take count (drop 4 (bytes (drop 1 (drop at text))))

  found_data : (read_record (drop at text)).found ≡ hex.Data address data_of
  found_data = ap (λ (z : HexRead). z.found) a.reads ∙ ap (record_in (drop at text)) e

  -- A record with bytes takes two bytes of the text at least.
  pub data_moves : 2 ≤ r.next
  data_moves =
      rw a.reads at (sized (drop at text)).moves (λ z. let y : ◌≡◌ {A = ℕ} 0 1 = cc (ap (record_in (drop at text)) e) in omega arith)

  -- It has as many as it says.
  pub data_fits : 4 + count ≤ length (bytes (drop 1 (drop at text)))
  data_fits =
      let bs = bytes (drop 1 (drop at text)) in
      omega (arith, data_length (drop at text) address data_of found_data, length-take count (drop 4 bs), length-drop 4 bs)

-- ---- the records judged

-- The records from `at` on, the first of which is line n, are still to be judged.
pub record Judging (text before places : List ℕ) (at n : ℕ) : Type 0 where
  pub counted : 2 * n ≤ at + 2
  pub within : at ≤ length text
  pub same : judge_records n (records (drop at text)) places ≡ judge_records 1 (records text) before

-- All are.
pub judging_none : (text before : List ℕ) → Judging text before before 0 1
judging_none text before = record { counted = omega arith; within = omega arith; same = refl }

module _ {text before places : List ℕ} {at n : ℕ} (j : Judging text before places at n) where
  -- None is left, and the end is missing.
  pub judging_end : length text ≤ at → refuse MalformedRecord n ≡ judge_records 1 (records text) before
  unfolding judge_records
  judging_end h = rw (no_records (drop at text) (omega (arith, length-drop at text))) at j.same

  module _ {r : Read} (a : At text at r) where
    -- The verdict goes by the first of them.
    here : judge_records n (record_in (drop at text) r.found ∷ records (drop (at + r.next) text)) places
        ≡ judge_records 1 (records text) before
    here =
        ap (λ (xs : List ℕ). judge_records n (record_in (drop at text) r.found ∷ records xs) places) (sym a.behind)
        ∙ ap (λ (z : HexRead). judge_records n (z.found ∷ records (drop z.next (drop at text))) places) (sym a.reads)
        ∙ sym (judge_first_lem n (drop at text) places a.more)
        ∙ j.same

    -- It is bad.
    pub judging_bad : r.found ≡ None → refuse MalformedRecord n ≡ judge_records 1 (records text) before
    unfolding judge_records
    judging_bad e =
        ap (λ (f : _). judge_records n (record_in (drop at text) f ∷ records (drop (at + r.next) text)) places) (sym e) ∙ here

    module _ (e : r.found ≡ Some End) where
      end_here : judge_records n (hex.End ∷ records (drop (at + r.next) text)) places ≡ judge_records 1 (records text) before
      end_here = ap (λ (f : _). judge_records n (record_in (drop at text) f ∷ records (drop (at + r.next) text)) places) (sym e) ∙ here

      -- It is the end, and the last.
      pub judging_last : at + r.next ≡ length text → accept places ≡ judge_records 1 (records text) before
      unfolding judge_records
      judging_last l =
          rw (no_records (drop (at + r.next) text) (omega (arith, length-drop (at + r.next) text))) at end_here

      -- Something is behind it.
      pub judging_behind : (at + r.next ≡ length text → ⊥) → refuse MalformedRecord (n + 1) ≡ judge_records 1 (records text) before
      unfolding judge_records
      judging_behind l =
          behind_end (records (drop (at + r.next) text))
          (some_records (drop (at + r.next) text) (omega (arith, length-drop (at + r.next) text, a.within)))
          ∙ end_here
        where
          behind_end : (rs : List HexRecord) → (rs ≡ [] → ⊥) → refuse MalformedRecord (n + 1) ≡ judge_records n (hex.End ∷ rs) places
          behind_end [] h = absurd (h refl)
          behind_end (z ∷ rs) h = refl

    module _ {address count : ℕ} (e : r.found ≡ Some (Data address count)) where
      -- The verdict goes by the bytes that it gives.
      by_bytes : (v : Verdict (List ℕ)) → v ≡ give n address (data_of a e) places
          → v and_then (λ more. judge_records (n + 1) (records (drop (at + r.next) text)) more) ≡ judge_records 1 (records text) before
      unfolding judge_records
      by_bytes v g =
          ap (λ (z : Verdict (List ℕ)). z and_then (λ more. judge_records (n + 1) (records (drop (at + r.next) text)) more)) g
          ∙ ap (λ (f : _). judge_records n (record_in (drop at text) f ∷ records (drop (at + r.next) text)) places) (sym e)
          ∙ here

      -- They are given: the records behind it are to be judged.
      pub judging_more : (after : List ℕ) → accept after ≡ give n address (data_of a e) places
          → Judging text before after (at + r.next) (n + 1)
      judging_more after g =
          record { counted = omega (arith, j.counted, data_moves a e); within = a.within; same = by_bytes (accept after) g }

      -- One can't be.
      pub judging_refused : (cause : Cause) (line : ℕ) → refuse cause line ≡ give n address (data_of a e) places
          → refuse cause line ≡ judge_records 1 (records text) before
      judging_refused cause line g = by_bytes (refuse cause line) g

-- ---- a refusal

-- A `?` hands it on as it is.
pub handed_on : {A : Type 0} (r : Result A (Refusal ℕ)) (e : Refusal ℕ) → IsErrAnd r (λ y. y ≡ e) → r ≡ Err e
handed_on (Ok a) e h = absurd h
handed_on (Err y) e h = ap Err h
