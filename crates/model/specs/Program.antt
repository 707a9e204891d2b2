-- Images, and what the programs `firing` and `hexfiring` print of them: document 01, "Text", the second paragraph.
-- Assumes nothing.
use Rattle.std.specs.Prelude.{ℕ, ◌<◌, ◌≡◌, cond, List, [], ◌∷◌, ◌++◌, leb, length, drop, replicate}
use Rattle.labels.specs.Label.{label_count}
use Rattle.causes.specs.Causes.{Done, number_of, is_done}
use Rattle.model.specs.Numbers.{most_words, letter_x}
use Rattle.model.specs.Record.{Bank, State, state_of}
use Rattle.model.specs.Step.{run}
use Rattle.model.specs.Load.{Loading, load}
use Rattle.model.specs.HexLoad.{load_hex}
use Rattle.model.specs.Listing.{line, listing}

-- An image: a text, or an M text with a HEX text and a label.
pub data Image : Type 0 where
  from_text : List ℕ → Image
  from_hex : List ℕ → List ℕ → (label : ℕ) → label < label_count → Image

-- The image loaded.
abbrev pub load_image : Image → Bank → Loading
load_image (from_text text) m = load text m
load_image (from_hex text hex label is) m = load_hex text hex label m

-- The load is accepted.
abbrev pub Accepted : Loading → Type 0
Accepted a = a.outcome ≡ Done

-- The state that a load leaves: its record and memory.
abbrev pub state_of_load : Loading → State
state_of_load a = state_of a.machine a.memory

-- What is printed after a load: the listing of the run to the end; for a refusal `X,number,line`.
unfoldable pub reply : Loading → List ℕ
reply a =
    cond (is_done a.outcome) (listing (run (state_of_load a))) (line letter_x (number_of a.outcome ∷ a.line ∷ []))

-- The memory after it.
unfoldable pub memory_after : Loading → Bank
memory_after a = cond (is_done a.outcome) (run (state_of_load a)).memory a.memory

-- A firing: how many bytes were written, the output and the lent memory at exit.
pub record Firing : Type 0 where
  pub bytes : ℕ
  pub output : List ℕ
  pub memory : Bank

-- An image that was loaded, run to the end and printed into lent output. Output that is too short is left, with 0 bytes.
unfoldable pub fire_load : Loading → List ℕ → Firing
fire_load a out =
    let o = reply a in
    cond (leb (length o) (length out))
    (record { bytes = length o; output = o ++ drop (length o) out; memory = memory_after a })
    (record { bytes = 0; output = out; memory = memory_after a })

-- A text loaded and fired so.
unfoldable pub fire : List ℕ → Bank → List ℕ → Firing
fire text m out = fire_load (load text m) out

-- An M text with a HEX text and a label.
unfoldable pub fire_hex : List ℕ → List ℕ → ℕ → Bank → List ℕ → Firing
fire_hex text hex label m out = fire_load (load_hex text hex label m) out

-- ---- the programs, whose memory and output have room for every image

-- An image fired where the output is longer than any reply: the reply stands whole at its start.
unfoldable pub fire_load_whole : Loading → List ℕ → Firing
fire_load_whole a out =
    let o = reply a in record { bytes = length o; output = o ++ drop (length o) out; memory = memory_after a }

-- A text fired so.
unfoldable pub fire_whole : List ℕ → Bank → List ℕ → Firing
fire_whole text m out = fire_load_whole (load text m) out

-- The memory of the programs `firing` and `hexfiring`: 2,048 words and as many labels, the most that a machine can have, all
-- 0 before the load.
unfoldable pub program_memory : Bank
program_memory = record { values = replicate most_words 0; labels = replicate most_words 0 }

-- What a program prints: how many bytes, and the output that holds them at its start.
pub record Replied : Type 0 where
  pub bytes : ℕ
  pub output : List ℕ

-- That of a firing.
abbrev pub replied_of : Firing → Replied
replied_of f = record { bytes = f.bytes; output = f.output }

-- What `firing` prints: a text fired in that memory.
unfoldable pub fire_alone : List ℕ → List ℕ → Replied
fire_alone text out = replied_of (fire_whole text program_memory out)

-- What `hexfiring` prints.
unfoldable pub fire_hex_alone : List ℕ → List ℕ → ℕ → List ℕ → Replied
fire_hex_alone text hex label out = replied_of (fire_load_whole (load_hex text hex label program_memory) out)
