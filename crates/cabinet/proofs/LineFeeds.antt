-- A line feed is in a name just where one of its bytes is one.
-- Assumes nothing.
use Rattle.std.proofs.Common.{refl, sym, ap, ◌∙◌, ℕ, zero, suc, ◌≡◌, ◌||◌, Bool, true, false, cond, List, [], ◌∷◌, length, get_or, eqb}
use Rattle.std.specs.List.{list_any}
use Rattle.cabinet.specs.Names.{line_feed_in}

either : (a b : Bool) → cond a true b ≡ (a || b)
either true b = refl
either false b = refl

exchanged : (a b c : Bool) → (a || (b || c)) ≡ (b || (a || c))
exchanged true true c = refl
exchanged true false c = refl
exchanged false true c = refl
exchanged false false c = refl

-- Of a byte and some that follow it.
first : (x : ℕ) (xs : List ℕ) (n : ℕ) → line_feed_in (x ∷ xs) (suc n) ≡ (eqb x 10 || line_feed_in xs n)
unfolding line_feed_in
first x xs zero = either (eqb x 10) false
first x xs (suc n) =
    either (eqb (get_or xs n 0) 10) (line_feed_in (x ∷ xs) (suc n))
    ∙ ap (λ b. eqb (get_or xs n 0) 10 || b) (first x xs n)
    ∙ exchanged (eqb (get_or xs n 0) 10) (eqb x 10) (line_feed_in xs n)
    ∙ ap (λ b. eqb x 10 || b) (sym (either (eqb (get_or xs n 0) 10) (line_feed_in xs n)))

pub any_byte : (xs : List ℕ) → list_any (λ y. eqb y 10) xs ≡ line_feed_in xs (length xs)
unfolding line_feed_in
any_byte [] = refl
any_byte (x ∷ xs) = ap (λ b. eqb x 10 || b) (any_byte xs) ∙ sym (first x xs (length xs))
