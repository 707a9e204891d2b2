-- An accepted load from HEX leaves a state as the theorem wants it, and a memory of 2,048 words and labels is never too short
-- for one. What is made of the bytes is below 2^32 whatever they are, since each counts modulo 256.
-- Assumes nothing.
use Prim.Native.Nat.{ℕ, zero, suc, ◌+◌, ◌*◌, ◌<◌, ◌≤◌}
use mathlib.Core.Path.{◌≡◌, refl, ap, ◌∙◌}
use mathlib.Core.Logic.{⊎_elim}
use mathlib.Core.Bool.{true, false}
use mathlib.Core.List.{List, [], ◌∷◌, ◌++◌}
use native.Mathlib.Nat.{mod-lt}
use native.Mathlib.Omega.{arith}
use lib.Dec.{leb, ltb, lit<}
use lib.ListN.{length, get_or, length-append, get_or-append}
use lib.Seq.{get_or_at}
use borrow.Author.Tests.{ltb-true, ltb-false}
use Rattle.labels.specs.Label.{label_count, lowest}
use Rattle.labels.proofs.Constants.{lowest_number}
use Rattle.causes.specs.declared.Cause.TheVariants.{ShortMemory, MalformedRecord, MisplacedByte}
use Rattle.causes.specs.Causes.{Done, Refused}
use Rattle.causes.proofs.Numbers.{done_or_refused}
use Rattle.model.specs.Numbers.{value_count}
use Rattle.model.specs.Record.{Bank, Machine}
use Rattle.model.specs.Inner.Typed.{Below}
use Rattle.model.specs.Text.{read_line}
use Rattle.model.specs.Hex.{HexRecord, Data, End, Bad, records}
use Rattle.model.specs.Load.{Verdict, refuse, accept, judge_header}
use Rattle.model.specs.HexLoad.{judge_alone, no_bytes, is_free, give, judge_records, byte_at, word_at, has_byte, word_label, firsts, placed, settle_records, settle_hex, load_hex}
use Rattle.model.specs.Program.{Image, from_text, from_hex, load_image, Accepted, state_of_load}
use Rattle.model.proofs.Truth.{choice, either}
use Rattle.model.proofs.Load.{Lent, Heads, Loaded, NotShort, load_loaded, header_accepts, heads_loaded, then_accept, unless_accept, accept_not_short, then_not_short, other, header_not_short}

-- ---- a row of numbers

pub length_firsts : (n : ℕ) (f : ℕ → ℕ) → length (firsts n f) ≡ n
unfolding firsts
length_firsts zero f = refl
length_firsts (suc n) f = rw (length-append (firsts n f) (f n ∷ []), length_firsts n f) (omega arith)

pub firsts_at : (n : ℕ) (f : ℕ → ℕ) (i : ℕ) → i < n → get_or (firsts n f) i 0 ≡ f i
unfolding firsts
firsts_at zero f i h = absurd (omega arith)
firsts_at (suc n) f i h =
    ⊎_elim
    (λ (e : ltb i n ≡ true).
    get_or-append (firsts n f) (f n ∷ []) 0 i (rw (length_firsts n f) (ltb-true i n e)) ∙ firsts_at n f i (ltb-true i n e))
    (λ (e : ltb i n ≡ false).
    let q : i ≡ n = omega (arith, ltb-false i n e) in
    rw q (get_or_at (firsts n f) (f n) [] 0 n (length_firsts n f)))
    (either (ltb i n))

-- Where each of them is below a bound, so are those at the start of a list that begins with them.
firsts_below : {k : ℕ} (n : ℕ) (f : ℕ → ℕ) (xs : List ℕ) → ((i : ℕ) → f i < k) → Below k n (firsts n f ++ xs)
firsts_below n f xs h i l =
    rw (get_or-append (firsts n f) xs 0 i (rw (length_firsts n f) l), firsts_at n f i l) (h i)

firsts_within : (n : ℕ) (f : ℕ → ℕ) (xs : List ℕ) → n ≤ length (firsts n f ++ xs)
firsts_within n f xs = rw (length-append (firsts n f) xs, length_firsts n f) (omega arith)

-- ---- the memory

pub byte_below : (places : List ℕ) (at : ℕ) → byte_at places at < 256
unfolding byte_at
byte_below places at = mod-lt _ (lit< tt)

-- A word has 32 bits.
pub word_below : (places : List ℕ) (k : ℕ) → word_at places k < value_count
unfolding word_at
word_below places k =
    omega (
      arith,
      byte_below places (4 * k),
      byte_below places (4 * k + 1),
      byte_below places (4 * k + 2),
      byte_below places (4 * k + 3),
    )

-- Its label is one.
label_below : (label : ℕ) (places : List ℕ) → label < label_count → (k : ℕ) → word_label label places k < label_count
unfolding word_label
label_below label places h k =
    choice (λ (l : ℕ). l < label_count) (has_byte places k) label lowest (λ _. h) (λ _. rw lowest_number (lit< tt))

-- So the memory is in order.
placed_lent : (size label : ℕ) (places : List ℕ) (m : Bank) → label < label_count → Lent size (placed size label places m)
unfolding placed
placed_lent size label places m h =
    record {
      numbers =
          record {
            values = firsts_below size (word_at places) _ (word_below places);
            labels = firsts_below size (word_label label places) _ (label_below label places h);
          };
      words = firsts_within size (word_at places) _;
      labels = firsts_within size (word_label label places) _;
    }

-- ---- the load

-- An accepted M text: an M line that passes its tests, and nothing behind it.
pub alone_accepts : (text : List ℕ) (m : Bank) (r : Machine) → judge_alone text m ≡ accept r → Heads m r
unfolding judge_alone
alone_accepts text m r e =
    let a = then_accept (judge_header (length text) (read_line text).line m) _ r e in
    let b = unless_accept (leb (length text) (read_line text).next) _ _ (accept a.first) r a.behind in
    let same : a.first ≡ r = cc b.1 in
    header_accepts (length text) (read_line text).line m r (a.accepted ∙ ap accept same)

settled_records : (r : Machine) (label : ℕ) (v : Verdict (List ℕ)) (m : Bank) → Heads m r → label < label_count
    → (settle_records r label v m).outcome ≡ Done → Loaded (state_of_load (settle_records r label v m))
settled_records r label (refuse c n) m a h e = done_or_refused e refl
settled_records r label (accept places) m a h e = heads_loaded a _ (placed_lent r.fixed.size label places m h)

settled_hex : (v : Verdict Machine) (hex : List ℕ) (label : ℕ) (m : Bank) → ((r : Machine) → v ≡ accept r → Heads m r)
    → label < label_count → (settle_hex v hex label m).outcome ≡ Done → Loaded (state_of_load (settle_hex v hex label m))
settled_hex (refuse c n) hex label m f h e = done_or_refused e refl
settled_hex (accept r) hex label m f h e =
    settled_records r label (judge_records 1 (records hex) (no_bytes r.fixed.size)) m (f r refl) h e

-- An accepted load leaves a loaded state.
pub hex_loaded : (text hex : List ℕ) (label : ℕ) (m : Bank) → label < label_count → (load_hex text hex label m).outcome ≡ Done
    → Loaded (state_of_load (load_hex text hex label m))
unfolding load_hex
hex_loaded text hex label m = settled_hex (judge_alone text m) hex label m (alone_accepts text m)

-- An accepted image leaves a loaded state.
pub image_loaded : (image : Image) (m : Bank) → Accepted (load_image image m) → Loaded (state_of_load (load_image image m))
image_loaded (from_text text) m a = load_loaded text m a
image_loaded (from_hex text hex label is) m a = hex_loaded text hex label m is a

-- ---- memory that is never too short

give_not_short : (n at : ℕ) (bs places : List ℕ) → NotShort (give n at bs places)
unfolding give
give_not_short n at [] places = accept_not_short places
give_not_short n at (b ∷ bs) places =
    choice NotShort (is_free places at) _ _ (λ _. give_not_short n (at + 1) bs _) (λ _. other MisplacedByte refl)

records_not_short : (n : ℕ) (rs : List HexRecord) (places : List ℕ) → NotShort (judge_records n rs places)
unfolding judge_records
records_not_short n [] places = other MalformedRecord refl
records_not_short n (Bad ∷ rs) places = other MalformedRecord refl
records_not_short n (End ∷ []) places = accept_not_short places
records_not_short n (End ∷ r ∷ rs) places = other MalformedRecord refl
records_not_short n (Data at bs ∷ rs) places =
    then_not_short (give n at bs places) _ (give_not_short n at bs places) (λ more. records_not_short (n + 1) rs more)

settle_not_short : (r : Machine) (label : ℕ) (v : Verdict (List ℕ)) (m : Bank) → NotShort v
    → (settle_records r label v m).outcome ≡ Refused ShortMemory → ⊥
settle_not_short r label (refuse c n) m h e = let q : c ≡ ShortMemory = cc in h n (rw q refl)
settle_not_short r label (accept places) m h e = done_or_refused refl e

hex_settle_not_short : (v : Verdict Machine) (hex : List ℕ) (label : ℕ) (m : Bank) → NotShort v
    → (settle_hex v hex label m).outcome ≡ Refused ShortMemory → ⊥
hex_settle_not_short (refuse c n) hex label m h e = let q : c ≡ ShortMemory = cc in h n (rw q refl)
hex_settle_not_short (accept r) hex label m h e = settle_not_short r label (judge_records 1 (records hex) (no_bytes r.fixed.size)) m (records_not_short 1 (records hex) _) e

-- Into 2,048 words and labels no load from HEX is refused for short memory.
pub hex_not_short : (m : Bank) → 2048 ≤ length m.values → 2048 ≤ length m.labels → (text hex : List ℕ) (label : ℕ)
    → (load_hex text hex label m).outcome ≡ Refused ShortMemory → ⊥
unfolding load_hex judge_alone
hex_not_short m words labels text hex label =
    hex_settle_not_short _ hex label m
    (then_not_short (judge_header (length text) (read_line text).line m) _ (header_not_short m words labels _ _)
    (λ r.
    choice NotShort (leb (length text) (read_line text).next) _ _ (λ _. accept_not_short r) (λ _. other _ refl)))
