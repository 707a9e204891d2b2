-- The answer of the load: on the M text, from what a load answers on its first line; on the records, from their verdict.
-- Assumes nothing.
use Prim.Native.Nat.{ℕ, zero, suc, ◌+◌, ◌-◌, ◌*◌, ◌≤◌, ◌<◌}
use mathlib.Core.Path.{◌≡◌, refl, sym, ap, ◌∙◌}
use mathlib.Core.Bool.{false}
use mathlib.Core.List.{List, ◌∷◌, ◌++◌}
use native.Mathlib.Omega.{arith}
use lib.Dec.{leb}
use lib.ListN.{length, take, drop, replicate, length-replicate, replicate-append-replicate}
use lib.Seq.{take_at}
use borrow.Author.Tests.{le-leb, lt-leb}
use Rattle.std.specs.Prelude.{Option, None}
use Rattle.std.proofs.lemmas.List.{length-map}
use Rattle.causes.specs.declared.Cause.{Cause}
use Rattle.causes.specs.declared.Cause.TheVariants.{OutOfOrder}
use Rattle.causes.specs.Causes.{Done, is_done}
use Rattle.causes.specs.Tests.{unless}
use Rattle.model.specs.declared.format.Read.{Read}
use Rattle.model.specs.Record.{Bank, Machine, lent}
use Rattle.model.specs.Text.{read_line}
use Rattle.model.specs.Hex.{records}
use Rattle.model.specs.Load.{Verdict, refuse, accept, ◌and_then◌, judge_header, Loading, refusal}
use Rattle.model.specs.HexLoad.{judge_alone, judge_records, settle_records, no_bytes, word_at, word_label, firsts, placed, settle_hex, load_hex}
use Rattle.model.proofs.HexLoad.{alone_accepts}
use Rattle.header.specs.Loading.{headed}
use Rattle.header.proofs.Heading.{headed_accepts, headed_refuses}
use Rattle.header.proofs.Room.{Room, heads_room}
use Rattle.hexloader.specs.Inner.Places.{number_of, numbers_of}
use Rattle.hexloader.specs.Inner.Judging.{load_records}

-- ---- the M text

-- An answer on the first line that accepts it is that of another verdict that accepts its record.
accepted_headed : (v u : Verdict Machine) (m : Bank) (a : Loading) → a ≡ headed v m → a.outcome ≡ Done
    → u ≡ accept a.machine → a ≡ headed u m
accepted_headed v u m a e z f = e ∙ ap (λ (x : Verdict Machine). headed x m) (headed_accepts v m a e z ∙ sym f)

-- A load's answer on the first line of the M text, read by the reader.
module _ (text : List ℕ) (m : Bank) (read : Read) (q : read ≡ read_line text) (a : Loading)
    (e : a ≡ headed (judge_header (length text) read.line m) m)
  where
    -- The verdict on the text goes by that on its first line.
    alone : judge_alone text m
        ≡ judge_header (length text) read.line m
        and_then (λ r. unless (leb (length text) read.next) (refuse OutOfOrder 2) (accept r))
    unfolding judge_alone
    alone = rw q

    -- The line is refused.
    pub alone_refused : is_done a.outcome ≡ false → a ≡ headed (judge_alone text m) m
    alone_refused z =
        headed_refuses (judge_header (length text) read.line m) m a e z
        (λ v. headed (v and_then (λ r. unless (leb (length text) read.next) (refuse OutOfOrder 2) (accept r))) m)
        (λ c n. refl)
        ∙ ap (λ (v : Verdict Machine). headed v m) (sym alone)

    module _ (z : a.outcome ≡ Done) where
      accepts : judge_alone text m ≡ unless (leb (length text) read.next) (refuse OutOfOrder 2) (accept a.machine)
      accepts =
          alone
          ∙ ap (λ (v : Verdict Machine). v and_then (λ r. unless (leb (length text) read.next) (refuse OutOfOrder 2) (accept r)))
          (headed_accepts (judge_header (length text) read.line m) m a e z)

      -- Something is behind it: 4 at line 2.
      pub alone_more : read.next < length text → judge_alone text m ≡ refuse OutOfOrder 2
      alone_more h = accepts ∙ rw (lt-leb (length text) read.next h)

      -- Nothing is.
      pub alone_good : length text ≤ read.next → a ≡ headed (judge_alone text m) m
      alone_good h =
          accepted_headed (judge_header (length text) read.line m) (judge_alone text m) m a e z
          (accepts ∙ rw (le-leb (length text) read.next h))

-- ---- the records

module _ (r : Machine) (hex before : List ℕ) (label : ℕ) (w l : List ℕ) where
  -- One is refused.
  pub record_refused : (c : Cause) (n : ℕ) → refuse c n ≡ judge_records 1 (records hex) before
      → refusal c n (lent w l) ≡ load_records r hex label before (lent w l)
  record_refused c n e = ap (λ (v : Verdict (List ℕ)). settle_records r label v (lent w l)) e

  -- All are accepted, and words and labels are made of their bytes.
  pub records_accepted : (after w' l' : List ℕ) → accept after ≡ judge_records 1 (records hex) before
      → w' ≡ firsts r.fixed.size (word_at after) ++ drop r.fixed.size w
      → l' ≡ firsts r.fixed.size (word_label label after) ++ drop r.fixed.size l
      → record { outcome = Done; line = 0; machine = r; memory = lent w' l' } ≡ load_records r hex label before (lent w l)
  unfolding placed
  records_accepted after w' l' e p q =
      rw (p, q) (ap (λ (v : Verdict (List ℕ)). settle_records r label v (lent w l)) e)

-- ---- the answer

module _ (text hex : List ℕ) (label : ℕ) (m : Bank) (a : Loading) (e : a ≡ headed (judge_alone text m) m) where
  -- The M text is refused.
  pub text_refused : is_done a.outcome ≡ false → a ≡ load_hex text hex label m
  unfolding load_hex
  text_refused z = headed_refuses (judge_alone text m) m a e z (λ v. settle_hex v hex label m) (λ c n. refl)

  -- It is accepted, and the lent memory has room for its words.
  pub text_room : a.outcome ≡ Done → Room m a.machine
  text_room z = heads_room (alone_accepts text m a.machine (headed_accepts (judge_alone text m) m a e z))

  pub text_accepted : a.outcome ≡ Done
      → load_records a.machine hex label (no_bytes a.machine.fixed.size) m ≡ load_hex text hex label m
  unfolding load_hex
  text_accepted z = sym (ap (λ (v : Verdict Machine). settle_hex v hex label m) (headed_accepts (judge_alone text m) m a e z))

-- ---- places

none_given : (n : ℕ) → numbers_of (replicate n None) ≡ replicate n 256
none_given zero = refl
none_given (suc n) = ap (λ (places : List ℕ). 256 ∷ places) (none_given n)

-- Of the places for the largest memory so many are those for the bytes of a smaller one.
pub some_places : (size : ℕ) → size ≤ 2048 → numbers_of (take (4 * size) (replicate 8192 None)) ≡ no_bytes size
some_places size h =
    let rest : 4 * size + (8192 - 4 * size) ≡ 8192 = omega arith in
    ap (λ (n : ℕ). numbers_of (take (4 * size) (replicate n None))) (sym rest)
    ∙ ap (λ (ps : List (Option ℕ)). numbers_of (take (4 * size) ps)) (sym (replicate-append-replicate (4 * size) (8192 - 4 * size) None))
    ∙ ap numbers_of (take_at (replicate (4 * size) None) _ (4 * size) (length-replicate (4 * size) None))
    ∙ none_given (4 * size)

-- They are so many.
pub some_length : (size : ℕ) → size ≤ 2048 → length {A = Option ℕ} (take (4 * size) (replicate 8192 None)) ≡ 4 * size
some_length size h =
    sym (length-map (take (4 * size) (replicate 8192 None)) number_of)
    ∙ ap length (some_places size h)
    ∙ length-replicate (4 * size) 256
