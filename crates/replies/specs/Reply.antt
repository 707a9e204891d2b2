-- What a program replies, and how many bytes of a buffer count: those that were read into it, or are to be written.
-- Assumes nothing.
use Rattle.std.specs.Prelude.{◌≡◌, ◌<◌, ◌≤◌, ℕ, List, Option, length, take}
use denote.Param.Members.{Once}
use denote.Ref.{Bor, MutBor}
use Rattle.std.specs.Io.KnownBytes.{Consumes, IsAtEnd}

-- The first n bytes of an output, and there are so many.
abbrev pub IsCountOf : ℕ → List ℕ → Type 0
IsCountOf n output = (n ≤ length output) × (n ≡ length (take n output))

module _ {F B : Type 0} (calls : Once F (Bor (List ℕ) × (MutBor B × Unit {0})) (ℕ × (MutBor B × Unit {0}))) where
  -- For a text and an output the call may give a count, and leave the output so.
  pub record Gives (call : F) (text : List ℕ) (lent : B) (count : ℕ) (left : B) : Type 0 where
    pub shown : Bor (List ℕ)
    pub shows : shown.now ≡ text
    pub given : MutBor B
    pub gives : given.now ≡ lent
    pub back : MutBor B
    pub met : calls.post call (shown, (given, tt)) (count, (back, tt))
    pub leaves : back.now ≡ left

-- A text was read, to the end of the input where it is shorter than the room for it.
pub record IsRead (unread rest : Option (List ℕ)) (room : ℕ) (text : List ℕ) : Type 0 where
  pub bytes : Consumes unread rest text
  pub whole : length text < room → IsAtEnd rest
