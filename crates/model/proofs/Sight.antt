-- What is seen by one who sees some of the labels, in two states and after a write: what is seen of the one is there in the
-- other, a hidden write shows nothing, and the same write to something seen shows the same.
-- Assumes nothing.
use Prim.Native.Nat.{ℕ}
use mathlib.Core.Path.{◌≡◌, refl, sym, ap, ◌∙◌, subst}
use mathlib.Core.Logic.{⊎_elim}
use mathlib.Core.Bool.{Bool, true, false, cond, and-false}
use native.Mathlib.Omega.{arith}
use borrow.Author.Tests.{ltb-true, lt-ltb, eqb-true}
use Rattle.labels.specs.Label.{flows}
use Rattle.principals.proofs.Laws.{flows_trans}
use Rattle.model.specs.Record.{State, Location, register, word, value_at, label_at}
use Rattle.model.specs.Ops.{Write, nothing, value, label}
use Rattle.model.specs.Step.{written}
use Rattle.model.specs.Seen.{within, exists, hidden, shown, seen_by, seen_control}
use Rattle.model.proofs.Truth.{either, clash, same_outcome}
use Rattle.model.proofs.Writes.{There, same, value_after_value, label_after_label, label_after_value, value_after_label, written_fixed}
use Rattle.model.proofs.Ready.{◌⊑◌}
use Rattle.model.proofs.Legal.{Inside}

-- A location that exists is inside, and one that is inside exists.
pub inside : (s : State) (x : Location) → exists s x ≡ true → Inside s x
unfolding exists
inside s (register k) e = ltb-true k 16 e
inside s (word k) e = ltb-true k s.fixed.size e

pub inside_exists : (s : State) (x : Location) → Inside s x → exists s x ≡ true
unfolding exists
inside_exists s (register k) h = lt-ltb k 16 h
inside_exists s (word k) h = lt-ltb k s.fixed.size h

-- Which locations exist goes by the size alone.
pub exists_size : (s t : State) (x : Location) → s.fixed.size ≡ t.fixed.size → exists s x ≡ exists t x
unfolding exists
exists_size s t (register k) e = refl
exists_size s t (word k) e = rw e

-- Two states of equal size in which every location looks the same.
pub record Alike (sees : ℕ → Bool) (s t : State) : Type 0 where
  pub size : s.fixed.size ≡ t.fixed.size
  pub seen : (x : Location) → seen_by sees s x ≡ seen_by sees t x

-- It goes both ways, and on.
pub alike_sym : {sees : ℕ → Bool} {s t : State} → Alike sees s t → Alike sees t s
alike_sym a = record { size = sym a.size; seen = λ x. sym (a.seen x) }

pub alike_trans : {sees : ℕ → Bool} {s t u : State} → Alike sees s t → Alike sees t u → Alike sees s u
alike_trans a b = record { size = a.size ∙ b.size; seen = λ x. a.seen x ∙ b.seen x }

-- What is seen of a location that exists and whose label is within.
is_shown : (sees : ℕ → Bool) (s : State) (x : Location) → exists s x ≡ true → sees (label_at s x) ≡ true
    → seen_by sees s x ≡ shown (label_at s x) (value_at s x)
unfolding seen_by
is_shown sees s x e h = rw (e, h)

-- Nothing is seen of one whose label is outside.
pub is_hidden : (sees : ℕ → Bool) (s : State) (x : Location) → sees (label_at s x) ≡ false → seen_by sees s x ≡ hidden
unfolding seen_by
is_hidden sees s x h = rw (h, and-false)

-- Of something shown, label and value are equal.
shown_equal : {l v m w : ℕ} → shown l v ≡ shown m w → (l ≡ m) × (v ≡ w)
shown_equal e = ((cc), (cc))

-- Nothing is both shown and hidden.
shown_hidden : {l v : ℕ} → shown l v ≡ hidden → ⊥
shown_hidden e = let z : ◌≡◌ {A = ℕ} 0 1 = cc in omega arith

-- ---- two states that look alike

-- What is within sight in the one state has the same label and value in the other.
pub seen_equal : {sees : ℕ → Bool} {s t : State} → Alike sees s t → (x : Location) → exists s x ≡ true → sees (label_at s x) ≡ true
    → (label_at s x ≡ label_at t x) × (value_at s x ≡ value_at t x)
seen_equal {sees} {s} {t} a x e h =
    let b = sym (is_shown sees s x e h) ∙ a.seen x in
    ⊎_elim
    (λ (k : sees (label_at t x) ≡ true). shown_equal (b ∙ is_shown sees t x (sym (exists_size s t x a.size) ∙ e) k))
    (λ (k : sees (label_at t x) ≡ false). absurd (shown_hidden (b ∙ is_hidden sees t x k)))
    (either (sees (label_at t x)))

-- A down-set of labels: with a label it has every label that flows to it.
pub record DownSet (sees : ℕ → Bool) : Type 0 where
  pub below : {l m : ℕ} → l ⊑ m → sees m ≡ true → sees l ≡ true

-- The labels that flow to ℓ are one.
pub within_down : (ℓ : ℕ) → DownSet (within ℓ)
unfolding within
within_down ℓ = record { below = λ h e. (flows_trans h (record { holds = e })).holds }

-- What flows to a label within sight has the same label and value in the other.
pub flows_equal : {sees : ℕ → Bool} {m : ℕ} {s t : State} → DownSet sees → Alike sees s t → sees m ≡ true → (x : Location)
    → exists s x ≡ true → flows (label_at s x) m ≡ true → (label_at s x ≡ label_at t x) × (value_at s x ≡ value_at t x)
flows_equal d a h x e f = seen_equal a x e (d.below (record { holds = f }) h)

-- Whether a label flows to one within sight is the same in both.
pub flows_alike : {sees : ℕ → Bool} {m : ℕ} {s t : State} → DownSet sees → Alike sees s t → sees m ≡ true → (x : Location)
    → exists s x ≡ true → flows (label_at s x) m ≡ flows (label_at t x) m
flows_alike {sees} {m} {s} {t} d a h x e =
    same_outcome _ _
    (λ (f : flows (label_at s x) m ≡ true). ap (λ (l : ℕ). flows l m) (sym (flows_equal d a h x e f).0) ∙ f)
    (λ (f : flows (label_at t x) m ≡ true).
    ap (λ (l : ℕ). flows l m)
    (sym (flows_equal d (alike_sym a) h x (sym (exists_size s t x a.size) ∙ e) f).0) ∙ f)

-- ---- after a write

-- A write that shows nothing: the label of its location is outside, and where it sets a label that is outside too.
pub data Hidden (sees : ℕ → Bool) (s : State) : Write → Type 0 where
  none : Hidden sees s nothing
  sets : {x : Location} {v : ℕ} → sees (label_at s x) ≡ false → Hidden sees s (value x v)
  marks : {x : Location} {l : ℕ} → sees (label_at s x) ≡ false → sees l ≡ false → Hidden sees s (label x l)

-- A write to a location within sight.
pub data Visible (sees : ℕ → Bool) (s : State) : Write → Type 0 where
  sets : {x : Location} {v : ℕ} → sees (label_at s x) ≡ true → Visible sees s (value x v)
  marks : {x : Location} {l : ℕ} → sees (label_at s x) ≡ true → Visible sees s (label x l)

-- One location, where the test says so.
pub same_location : (x y : Location) → same x y ≡ true → x ≡ y
same_location (register j) (register k) e = ap register (eqb-true j k e)
same_location (register j) (word k) e = clash e refl
same_location (word j) (register k) e = clash e refl
same_location (word j) (word k) e = ap word (eqb-true j k e)

-- What is seen of a location goes by its label and value, and whether it exists.
seen_by_lem : (sees : ℕ → Bool) (s t : State) (x : Location) → exists s x ≡ exists t x → label_at s x ≡ label_at t x
    → value_at s x ≡ value_at t x → seen_by sees s x ≡ seen_by sees t x
unfolding seen_by
seen_by_lem sees s t x e l v = rw (e, l, v)

-- Whether a location exists is left by a write.
exists_written : (s : State) (w : Write) (y : Location) → exists (written s w) y ≡ exists s y
exists_written s w y = exists_size (written s w) s y (ap (λ f. f.size) (written_fixed s w))

-- A write to a location that exists and is there.
pub data Fits (s : State) : Write → Type 0 where
  none : Fits s nothing
  sets : {x : Location} {v : ℕ} → There s x → exists s x ≡ true → Fits s (value x v)
  marks : {x : Location} {l : ℕ} → There s x → exists s x ≡ true → Fits s (label x l)

-- Every other location looks as it did.
other_value : (sees : ℕ → Bool) (s : State) (x y : Location) (v : ℕ) → There s x → same x y ≡ false
    → seen_by sees (written s (value x v)) y ≡ seen_by sees s y
other_value sees s x y v t e =
    seen_by_lem sees (written s (value x v)) s y (exists_written s (value x v) y) (label_after_value s x y v)
    (value_after_value s x y v t ∙ ap (λ (b : Bool). cond b v (value_at s y)) e)

other_label : (sees : ℕ → Bool) (s : State) (x y : Location) (l : ℕ) → There s x → same x y ≡ false
    → seen_by sees (written s (label x l)) y ≡ seen_by sees s y
other_label sees s x y l t e =
    seen_by_lem sees (written s (label x l)) s y (exists_written s (label x l) y)
    (label_after_label s x y l t ∙ ap (λ (b : Bool). cond b l (label_at s y)) e) (value_after_label s x y l)

-- The location itself: its value, its label.
own_value : (s : State) (x y : Location) (v : ℕ) → There s x → same x y ≡ true → value_at (written s (value x v)) y ≡ v
own_value s x y v t e = value_after_value s x y v t ∙ ap (λ (b : Bool). cond b v (value_at s y)) e

pub own_label : (s : State) (x y : Location) (l : ℕ) → There s x → same x y ≡ true → label_at (written s (label x l)) y ≡ l
own_label s x y l t e = label_after_label s x y l t ∙ ap (λ (b : Bool). cond b l (label_at s y)) e

-- A hidden write shows nothing, at any location.
hidden_at : (sees : ℕ → Bool) (s : State) {w : Write} → Fits s w → Hidden sees s w → (y : Location)
    → seen_by sees (written s w) y ≡ seen_by sees s y
hidden_at sees s none none y = unfold written in refl
hidden_at sees s (sets {x = x} {v = v} t i) (sets h) y =
    ⊎_elim
    (λ (e : same x y ≡ true).
    let k : sees (label_at s y) ≡ false = ap (λ (z : Location). sees (label_at s z)) (sym (same_location x y e)) ∙ h in
    is_hidden sees (written s (value x v)) y (ap sees (label_after_value s x y v) ∙ k) ∙ sym (is_hidden sees s y k))
    (λ (e : same x y ≡ false). other_value sees s x y v t e)
    (either (same x y))
hidden_at sees s (marks {x = x} {l = l} t i) (marks h m) y =
    ⊎_elim
    (λ (e : same x y ≡ true).
    let k : sees (label_at s y) ≡ false = ap (λ (z : Location). sees (label_at s z)) (sym (same_location x y e)) ∙ h in
    is_hidden sees (written s (label x l)) y (ap sees (own_label s x y l t e) ∙ m) ∙ sym (is_hidden sees s y k))
    (λ (e : same x y ≡ false). other_label sees s x y l t e)
    (either (same x y))

-- A hidden write shows nothing.
pub hidden_write : {sees : ℕ → Bool} {s : State} {w : Write} → Fits s w → Hidden sees s w → Alike sees (written s w) s
hidden_write {sees} {s} {w} f h = record { size = ap (λ f. f.size) (written_fixed s w); seen = hidden_at sees s f h }

-- After the same write a location of equal label and value before, or after, looks the same.
seen_after : {sees : ℕ → Bool} {s t : State} → Alike sees s t → (w : Write) (y : Location)
    → label_at (written s w) y ≡ label_at (written t w) y → value_at (written s w) y ≡ value_at (written t w) y
    → seen_by sees (written s w) y ≡ seen_by sees (written t w) y
seen_after {sees} {s} {t} a w y l v =
    seen_by_lem sees (written s w) (written t w) y
    (exists_written s w y ∙ exists_size s t y a.size ∙ sym (exists_written t w y)) l v

-- The same write to a location within sight shows the same, at any location.
visible_at : {sees : ℕ → Bool} {s t : State} → Alike sees s t → {w : Write} → Fits s w → Fits t w → Visible sees s w → (y : Location)
    → seen_by sees (written s w) y ≡ seen_by sees (written t w) y
visible_at {sees} {s} {t} a (sets {x = x} {v = v} f i) (sets g j) (sets h) y =
    ⊎_elim
    (λ (e : same x y ≡ true).
    let q = subst (λ (z : Location). label_at s z ≡ label_at t z) (same_location x y e) (seen_equal a x i h).0 in
    seen_after a (value x v) y (label_after_value s x y v ∙ q ∙ sym (label_after_value t x y v))
    (own_value s x y v f e ∙ sym (own_value t x y v g e)))
    (λ (e : same x y ≡ false). other_value sees s x y v f e ∙ a.seen y ∙ sym (other_value sees t x y v g e))
    (either (same x y))
visible_at {sees} {s} {t} a (marks {x = x} {l = l} f i) (marks g j) (marks h) y =
    ⊎_elim
    (λ (e : same x y ≡ true).
    let q = subst (λ (z : Location). value_at s z ≡ value_at t z) (same_location x y e) (seen_equal a x i h).1 in
    seen_after a (label x l) y (own_label s x y l f e ∙ sym (own_label t x y l g e))
    (value_after_label s x y l ∙ q ∙ sym (value_after_label t x y l)))
    (λ (e : same x y ≡ false). other_label sees s x y l f e ∙ a.seen y ∙ sym (other_label sees t x y l g e))
    (either (same x y))
visible_at {sees = sees} {s = s} {t = t} a none _ x6 y = elim x6 [ ]

-- The same write to a location within sight shows the same.
pub visible_write : {sees : ℕ → Bool} {s t : State} → Alike sees s t → {w : Write} → Fits s w → Fits t w → Visible sees s w
    → Alike sees (written s w) (written t w)
visible_write {s = s} {t = t} a {w} f g h =
    record {
      size = ap (λ f. f.size) (written_fixed s w) ∙ a.size ∙ sym (ap (λ f. f.size) (written_fixed t w));
      seen = visible_at a f g h;
    }

-- ---- what is seen of the control

-- With both outside nothing is.
pub no_control : (ℓ : ℕ) (s t : State) → within ℓ s.control.pair.pc ≡ false → within ℓ t.control.pair.pc ≡ false
    → seen_control ℓ s ≡ seen_control ℓ t
unfolding seen_control
no_control ℓ s t e f = rw (e, f) refl
