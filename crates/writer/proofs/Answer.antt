-- What the line writer answers: from what its tests and its writing found, and to its callers.
-- Assumes nothing.
use Prim.Native.Nat.{ℕ, ◌+◌, ◌-◌, ◌<◌, ◌≤◌}
use mathlib.Core.Path.{◌≡◌, sym, ap, ◌∙◌}
use mathlib.Core.List.{List}
use native.Mathlib.Omega.{arith}
use lib.ListN.{length, set, length-set}
use borrow.Author.Tests.{le-leb, lt-leb}
use borrow.Rule.Slice.PartMut.{put_mid}
use Rattle.model.specs.Listing.{fields, line}
use Rattle.writer.specs.Writing.{over, Writing, answer, written, writing}
use Rattle.writer.specs.Inner.Wrote.{Wrote}
use Rattle.texts.proofs.Fields.{line_length, line_most}
use Rattle.writer.proofs.Over.{rest, wrote_length, wrote_byte, wrote_then, wrote_last}

-- The output with its letter, and with the part behind the letter back in its place.
abbrev pub headed : ℕ → List ℕ → List ℕ → List ℕ
headed letter out part = put_mid 1 (length (set out 0 letter) - 1) (set out 0 letter) part

-- How many bytes a line of up to six fields takes.
pub record LineCount (ns : List ℕ) (count : ℕ) : Type 0 where
  pub few : length ns ≤ 6
  pub counted : count ≡ 2 + length (fields ns)

-- A line that is written but for its LF, which is to stand at `last`.
pub record LineWritten (letter : ℕ) (ns out : List ℕ) (count last : ℕ) (body : List ℕ) : Type 0 where
  pub room : last < length body
  pub same : (b : ℕ) → length (set body last b) ≡ length out
  pub line : answer count (set body last 10) ≡ writing letter ns out

module _ (letter : ℕ) (ns out : List ℕ) where
  -- More fields than a line has: nothing is written.
  pub not_a_line : 6 < length ns → answer 0 out ≡ writing letter ns out
  unfolding writing
  not_a_line h = rw (lt-leb (length ns) 6 h)

  module _ {count : ℕ} (n : LineCount ns count) where
    -- That is the line's length.
    is_length : count ≡ length (line letter ns)
    is_length = n.counted ∙ sym (line_length letter ns)

    -- Too short a rest: nothing is written.
    pub no_room : length out < count → answer count out ≡ writing letter ns out
    unfolding writing written
    no_room l = rw (le-leb (length ns) 6 n.few, ← is_length, lt-leb count (length out) l)

    -- The line fits, and its fields were written behind the letter.
    pub line_written : {k : ℕ} {part : List ℕ} → count ≤ length out → Wrote (fields ns) (rest 1 (set out 0 letter)) k part
        → LineWritten letter ns out count (1 + k) (headed letter out part)
    unfolding writing written line
    line_written {k} {part} l w =
        let c = n.counted in
        let v = wrote_then (wrote_byte letter out (omega arith)) w in
        let done = wrote_last 10 v (omega (arith, w.count)) in
        record {
          room = omega (arith, wrote_length v, w.count);
          same = λ b. length-set (headed letter out part) (1 + k) b ∙ wrote_length v;
          line = rw (le-leb (length ns) 6 n.few, ← is_length, le-leb count (length out) l, done.output);
        }

-- ---- to callers

module _ (letter : ℕ) (ns out : List ℕ) {after : List ℕ} {count : ℕ} (few : length ns ≤ 6)
    (e : answer count after ≡ writing letter ns out)
  where
    -- What was written of a line of up to six fields.
    pub line_answer : answer count after ≡ written (line letter ns) out
    unfolding writing
    line_answer = rw (le-leb (length ns) 6 few) at e

    -- It takes at most 128 bytes.
    pub answer_most : count ≤ 128
    unfolding written
    answer_most = let c = ap (λ (a : Writing). a.count) line_answer in omega (arith, line_most letter ns)

    -- Where there is room for that, it was written whole.
    pub line_whole : 128 ≤ length out → answer count after ≡ answer (length (line letter ns)) (over (line letter ns) out)
    unfolding written
    line_whole room = line_answer ∙ rw (le-leb (length (line letter ns)) (length out) (omega (arith, line_most letter ns)))
