-- What a read put behind the filled part of a buffer is what the reader lost.
-- Assumes nothing.
use Rattle.std.proofs.Common.{◌+◌, ◌≤◌, ◌≡◌, ◌∙◌, ℕ, List, ◌++◌, length, take, drop, sym, ap, subst, le_refl, drop_at, length-take-le}
use Rattle.std.specs.declared.option.Option.{Option}
use Rattle.std.proofs.lemmas.Slice.{take-put_mid_below}
use Rattle.std.proofs.KnownBytes.{Consumes-trans}
use Rattle.std.specs.Io.KnownBytes.{Consumes}
use borrow.Rule.Slice.PartMut.{put_mid, post_of}
use Rattle.std.proofs.Math.Seq.{take-add}
use Rattle.std.proofs.lemmas.List.{take-append-le}

-- The first bytes of a list, and the first n of those that were put behind them.
filled : (a k n : ℕ) (xs ys : List ℕ) → a ≤ length xs → n ≤ length ys → take (a + n) (put_mid a k xs ys) ≡ take a xs ++ take n ys
filled a k n xs ys within fits =
    let after = post_of a k xs in
    let list = put_mid a k xs ys in
    take-add a n list
    ∙ ap (λ l. l ++ take n (drop a list)) (take-put_mid_below _ _ _ _ _ (le_refl _) within)
    ∙ ap (λ l. take a xs ++ take n l) (drop_at (take a xs) (ys ++ after) a (length-take-le a xs within))
    ∙ ap (λ l. take a xs ++ l) (take-append-le n ys after fits)

-- What was lost before a read, and what it gave, were lost in all.
pub consumed : (old between new : Option (List ℕ)) (a k n : ℕ) (xs ys : List ℕ)
    → a ≤ length xs → n ≤ length ys → Consumes old between (take a xs) → Consumes between new (take n ys)
    → Consumes old new (take (a + n) (put_mid a k xs ys))
consumed old between new a k n xs ys within fits before read =
    subst (Consumes old new) (sym (filled a k n xs ys within fits)) (Consumes-trans _ _ _ _ _ before read)
