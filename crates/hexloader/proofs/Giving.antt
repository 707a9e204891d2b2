-- The bytes of a record given one after the other, each to the place behind that of the last one.
-- Assumes nothing.
use Prim.Native.Nat.{ℕ, suc, ◌+◌, ◌*◌, ◌≤◌, ◌<◌}
use mathlib.Core.Path.{◌≡◌, sym, ◌∙◌}
use mathlib.Core.Bool.{true, false}
use mathlib.Core.List.{List}
use native.Mathlib.Nat.{mod-eq_of_lt}
use native.Mathlib.Numerals.{add-one}
use native.Mathlib.Omega.{arith}
use lib.ListN.{length, take, drop, get_or, set, length-drop, drop_of_length-le}
use lib.Seq.{length-take-le, drop-cons, get_or-take, get_or-drop}
use borrow.Author.Tests.{eqb-true, lt-ltb}
use Rattle.std.specs.Prelude.{Option}
use Rattle.std.proofs.lemmas.List.{map-set, length-map}
use Rattle.causes.specs.declared.Cause.TheVariants.{MisplacedByte}
use Rattle.model.specs.Hex.{bytes}
use Rattle.model.specs.Load.{refuse, accept}
use Rattle.model.specs.HexLoad.{is_free, give}
use Rattle.texts.proofs.Text.{reaches}
use Rattle.texts.proofs.Hex.{byte_written}
use Rattle.hexreader.specs.Reading.{below, written_at}
use Rattle.hexreader.proofs.Bytes.{bytes_small}
use Rattle.hexloader.specs.Inner.Places.{number_of, numbers_of}

-- A free place is in memory.
pub free_within : (places : List (Option ℕ)) (at : ℕ) → is_free (numbers_of places) at ≡ true → at < length places
unfolding is_free
free_within places at e =
    let l : at < length (numbers_of places) = reaches (numbers_of places) at 256 (eqb-true _ _ e) (omega arith) in
    rw length-map at l

-- ---- the bytes that a record gives

module _ (text : List ℕ) (count : ℕ) (h : 4 + count ≤ length (bytes (drop 1 text))) where
  -- There are so many.
  pub data_count : length (take count (drop 4 (bytes (drop 1 text)))) ≡ count
  data_count = length-take-le count (drop 4 (bytes (drop 1 text))) (omega (arith, length-drop 4 (bytes (drop 1 text))))

  -- The byte i of them is what its digits write.
  pub data_at : (i : ℕ) → i < count → get_or (take count (drop 4 (bytes (drop 1 text)))) i 0 ≡ written_at text (9 + 2 * i)
  data_at i l =
      let here : 1 + 2 * (4 + i) ≡ 9 + 2 * i = omega arith in
      get_or-take count (drop 4 (bytes (drop 1 text))) i 0 l
      ∙ get_or-drop 4 (bytes (drop 1 text)) i 0
      ∙ byte_written text (4 + i) (omega arith)
      ∙ rw here

  -- The place that it is given to holds it.
  pub data_number : (i : ℕ) → i < count
      → number_of (below 256 (written_at text (9 + 2 * i))) ≡ get_or (take count (drop 4 (bytes (drop 1 text)))) i 0
  data_number i l =
      let here : 1 + 2 * (4 + i) ≡ 9 + 2 * i = omega arith in
      let byte : get_or (bytes (drop 1 text)) (4 + i) 0 ≡ written_at text (9 + 2 * i) = byte_written text (4 + i) (omega arith) ∙ rw here in
      let small : written_at text (9 + 2 * i) < 256 = rw (← byte) (bytes_small (drop 1 text) (4 + i)) in
      rw (lt-ltb (written_at text (9 + 2 * i)) 256 small, mod-eq_of_lt small) (sym (data_at i l))

-- ---- one by one

-- The bytes from the i-th on are still to be given, to the places from the i-th behind the address on.
pub record Giving (n address : ℕ) (bs before : List ℕ) (places : List (Option ℕ)) (i : ℕ) : Type 0 where
  pub same : give n (address + i) (drop i bs) (numbers_of places) ≡ give n address bs before

-- All of them are.
pub giving_none : (n address : ℕ) (bs : List ℕ) (before : List (Option ℕ)) → Giving n address bs (numbers_of before) before 0
giving_none n address bs before = let e : address + 0 ≡ address = omega arith in record { same = rw e }

module _ {n address : ℕ} {bs before : List ℕ} {places : List (Option ℕ)} {i : ℕ} (g : Giving n address bs before places i) where
  -- One more is given.
  pub giving_more : (place : Option ℕ) → i < length bs → is_free (numbers_of places) (address + i) ≡ true
      → number_of place ≡ get_or bs i 0 → Giving n address bs before (set places (address + i) place) (i + 1)
  unfolding give
  giving_more place h f e =
      let next : address + (i + 1) ≡ address + i + 1 = omega arith in
      record { same = rw (map-set, e, next, add-one i) (given ∙ g.same) }
    where
      given : give n (address + i + 1) (drop (suc i) bs) (set (numbers_of places) (address + i) (get_or bs i 0))
          ≡ give n (address + i) (drop i bs) (numbers_of places)
      given = sym (rw (drop-cons bs i 0 h, give, f))

  -- It can't be.
  pub giving_refused : i < length bs → is_free (numbers_of places) (address + i) ≡ false → refuse MisplacedByte n ≡ give n address bs before
  unfolding give
  giving_refused h f = sym (sym g.same ∙ rw (drop-cons bs i 0 h, give, f))

  -- All are given.
  pub giving_end : length bs ≤ i → accept (numbers_of places) ≡ give n address bs before
  unfolding give
  giving_end h = sym (sym g.same ∙ rw (drop_of_length-le bs h))
