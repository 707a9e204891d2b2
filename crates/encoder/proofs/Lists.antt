-- Laws about lists: words put into a buffer from a place on, and a list of what a function gives of each element.
-- Assumes nothing.
use Prim.Native.Nat.{ℕ, suc, ◌+◌, ◌≤◌, ◌<◌}
use native.Mathlib.Nat.{add-zero, add-suc, suc-add}
use native.Mathlib.Omega.{arith}
use mathlib.Core.Path.{◌≡◌, refl, sym, ap, ◌∙◌}
use mathlib.Core.List.{List, [], ◌∷◌, ◌++◌, map, append_assoc}
use lib.ListN.{length, take, drop, set}
use lib.Seq.{sets, sets-eq}
use denote.Param.Members.{Mut, Called}
use borrow.Rule.Slice.PartMut.{put_mid}
use Rattle.std.specs.Array.{IsMapOf}
use Rattle.std.proofs.lemmas.List.{drop-drop, same_lists, length-map, get_or-map, map-id}

-- Words put right behind others.
pub sets_then :
    (b : List ℕ) (i : ℕ) (ws : List ℕ) {n : ℕ} (vs : List ℕ) → n ≡ i + length ws → sets (sets b i ws) n vs ≡ sets b i (ws ++ vs)
sets_then b i [] vs e = rw (e, add-zero i) refl
sets_then b i (w ∷ ws) vs e = sets_then (set b i w) (suc i) ws vs (e ∙ add-suc i (length ws) ∙ sym (suc-add i (length ws)))

-- Words put at the start.
pub sets_start : (b ws : List ℕ) (n : ℕ) → length ws ≡ n → n ≤ length b → sets b 0 ws ≡ ws ++ drop n b
sets_start b ws n e h =
    let m : 0 + length ws ≡ n = omega arith in
    sets-eq ws b 0 (omega arith) ∙ ap (λ (k : ℕ). ws ++ drop k b) m

-- Words copied over a part.
pub copied : (b ws : List ℕ) (i n : ℕ) → length ws ≡ n → i + n ≤ length b → put_mid i n b ws ≡ sets b i ws
copied b ws i n e h = rw (drop-drop n i b, ← e) (sym (sets-eq ws b i (rw e h) ∙ append_assoc (take i b) ws (drop (i + length ws) b)))

-- What a function gives of each element.
pub mapped :
    {F A B : Type 0} {g : Mut F (A × Unit {0}) B} {f : F} {xs : List A} {ys : List B} {n : ℕ} (d : A) (h : A → B)
    → IsMapOf g f xs ys n → length xs ≡ n → ((x : A) (y : B) (p q : F) → Called g p (x, tt) y q → y ≡ h x) → ys ≡ map h xs
mapped {xs = xs} {ys = ys} d h calls long is =
    same_lists ys (map h xs) (calls.long ∙ sym long ∙ sym (length-map xs h))
    (λ k e below.
    let within : k < length xs = omega (arith, calls.long) in
    let step = calls.at k d e (omega (arith, calls.long)) in
    is _ _ step.0 step.1 step.2 ∙ sym (get_or-map h xs k d e within))

-- The same where it gives back each number.
pub mapped_same :
    {F : Type 0} {g : Mut F (ℕ × Unit {0}) ℕ} {f : F} {xs ys : List ℕ} {n : ℕ}
    → IsMapOf g f xs ys n → length xs ≡ n → ((x y : ℕ) (p q : F) → Called g p (x, tt) y q → y ≡ x) → ys ≡ xs
mapped_same {xs = xs} calls long is = mapped 0 (λ x. x) calls long is ∙ map-id xs
