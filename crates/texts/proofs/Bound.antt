-- How long a listing can be: at most 45,478 bytes for a well-formed record whose numbers have their types, whatever the
-- label that it is listed for.
-- Assumes nothing.
use Prim.Native.Nat.{ℕ, zero, suc, ◌+◌, ◌*◌, ◌^◌, ◌<◌, ◌≤◌}
use mathlib.Core.Path.{◌≡◌}
use mathlib.Core.Bool.{true, ◌&&◌}
use mathlib.Core.List.{[], ◌∷◌}
use native.Mathlib.Nat.{mul-suc}
use native.Mathlib.Omega.{arith}
use lib.Dec.{leb, eqb}
use lib.ListN.{length, get_or, length-append}
use borrow.Author.Tests.{leb-true, eqb-true}
use Rattle.model.specs.declared.Pair.{Pair}
use Rattle.model.specs.declared.Control.{Control}
use Rattle.model.specs.declared.Call.{Call}
use Rattle.model.specs.Record.{Bank, State, machine_of}
use Rattle.model.specs.Numbers.{letter_h, letter_r, letter_w, register_count, value_count}
use Rattle.model.specs.WellFormed.{end_in_range}
use Rattle.model.specs.Inner.Typed.{BankTyped, PairTyped, CallTyped, ControlTyped, Typed}
use Rattle.model.specs.Seen.{within, Seen, SeenControl}
use Rattle.model.specs.Listing.{decimal, line, end_fields, call_line, head_for, is_listed, entry_line, entry_for, entry_lines, listing_for}
use Rattle.model.proofs.Truth.{and_iff, choice}
use Rattle.model.proofs.Ready.{Fit, CallsFit, none, gate, upcall, both}
use Rattle.texts.specs.Inner.Sight.{control_seen, entry_seen, bank_seen}
use Rattle.texts.proofs.Decimal.{digits_below}
use Rattle.texts.proofs.Fields.{line_most, three_fields, five_fields, six_fields}
use Rattle.texts.proofs.Listing.{cond_most, head_length, listing_length}

-- ---- the E line

-- End and why are at most 3.
end_most : (c : Control) → end_in_range c ≡ true → (c.end ≤ 3) × (c.why ≤ 3)
unfolding end_in_range
end_most c e =
    let h = (and_iff (leb c.end 3) _).0 e in (
      leb-true c.end 3 h.0,
      choice (λ b. b ≡ true → c.why ≤ 3) (eqb c.end 3) (leb 1 c.why && leb c.why 3) (eqb c.why 0)
          (λ t w. leb-true c.why 3 ((and_iff (leb 1 c.why) (leb c.why 3)).0 w).1)
          (λ t w. let z = eqb-true c.why 0 w in omega arith)
          h.1,
    )

end_bound : (s : State) → Fit (machine_of s) → ControlTyped s.control → length (line 69 (end_fields s.control)) ≤ 34
end_bound s f t =
    let c = s.control in
    let e = end_most c f.end in
    omega (
      arith,
      six_fields 69 c.end c.why c.clock c.pc c.pair.pc c.pair.timing,
      digits_below 0 c.end (omega arith),
      digits_below 0 c.why (omega arith),
      digits_below 7 c.clock (omega (arith, f.clock, f.fixed.limit_high)),
      digits_below 9 c.pc (omega (arith, t.pc)),
      digits_below 2 c.pair.pc (omega (arith, t.pair.pc)),
      digits_below 2 c.pair.timing (omega (arith, t.pair.timing)),
    )

-- ---- F lines

call_bound : (kind k e : ℕ) (q : Pair) → kind < 10 → k < value_count → PairTyped q → e < 2 ^ 33
    → length (line 70 (kind ∷ k ∷ q.pc ∷ q.timing ∷ e ∷ [])) ≤ 34
call_bound kind k e q i h t l =
    omega (
      arith,
      five_fields 70 kind k q.pc q.timing e,
      digits_below 0 kind (omega arith),
      digits_below 9 k (omega arith),
      digits_below 2 q.pc (omega (arith, t.pc)),
      digits_below 2 q.timing (omega (arith, t.timing)),
      digits_below 9 e (omega arith),
    )

calls_bound : {now : Pair} {clock : ℕ} {x y : Call} → CallsFit now clock x y → CallTyped x → CallTyped y
    → length (call_line x) + length (call_line y) ≤ 68
calls_bound none t u = omega arith
calls_bound (gate {k} {q} h) t u = omega (arith, call_bound 1 k 0 q (omega arith) t.back t.pair (omega arith))
calls_bound (upcall {k} {e} {q} h) t u = omega (arith, call_bound 2 k e q (omega arith) t.back t.pair h.bounded)
calls_bound (both {k} {j} {e} {q} {r} v h) t u =
    omega (
      arith,
      call_bound 1 k 0 q (omega arith) t.back t.pair (omega arith),
      call_bound 2 j e r (omega arith) u.back u.pair h.bounded,
    )

-- ---- both

-- What stands for the E and F lines is no longer than they are.
head_bound : (ℓ : ℕ) (s : State) → Fit (machine_of s) → ControlTyped s.control
    → length (head_for (control_seen ℓ s.control)) ≤ 102
unfolding control_seen
head_bound ℓ s f t =
    choice (λ (h : SeenControl). length (head_for h) ≤ 102) (within ℓ s.control.pair.pc) _ _
    (λ _. omega (arith, head_length s.control, end_bound s f t, calls_bound f.calls t.first t.second))
    (λ _. omega (arith, line_most letter_h []))

-- ---- R and W lines

-- An entry whose number has at most so many digits.
entry_bound : (letter : ℕ) (b : Bank) (w n k : ℕ) → BankTyped n b → k < n → length (decimal k) ≤ w
    → length (entry_line letter k (get_or b.labels k 0) (get_or b.values k 0)) ≤ 18 + w
unfolding entry_line
entry_bound letter b w n k t i h =
    omega (
      arith,
      cond_most (is_listed (get_or b.labels k 0) (get_or b.values k 0)) (line letter (k ∷ get_or b.labels k 0 ∷ get_or b.values k 0 ∷ [])),
      three_fields letter k (get_or b.labels k 0) (get_or b.values k 0),
      digits_below 2 (get_or b.labels k 0) (omega (arith, t.labels k i)),
      digits_below 9 (get_or b.values k 0) (omega (arith, t.values k i)),
    )

-- The same for what ℓ sees of it.
seen_bound : (ℓ letter : ℕ) (b : Bank) (w n k : ℕ) → BankTyped n b → k < n → length (decimal k) ≤ w
    → length (entry_for letter k (bank_seen ℓ b k)) ≤ 18 + w
unfolding entry_seen
seen_bound ℓ letter b w n k t i h =
    choice (λ (x : Seen). length (entry_for letter k x) ≤ 18 + w) (within ℓ (get_or b.labels k 0)) _ _
    (λ _. entry_bound letter b w n k t i h) (λ _. omega arith)

-- Some of the first m entries, which are at most 10^(w + 1).
some_entries : (ℓ letter : ℕ) (b : Bank) (w m j n : ℕ) → BankTyped m b → m ≤ 10 ^ suc w → j + n ≤ m
    → length (entry_lines letter (bank_seen ℓ b) j n) ≤ (18 + suc w) * n
unfolding entry_lines
some_entries ℓ letter b w m j zero t h i = omega arith
some_entries ℓ letter b w m j (suc n) t h i =
    let d = digits_below w j (omega arith) in
    rw mul-suc
    (simp length-append
    (omega (arith, seen_bound ℓ letter b (suc w) m j t (omega arith) d, some_entries ℓ letter b w m (j + 1) n t h (omega arith))))

-- All of them.
pub entries_bound : (ℓ letter : ℕ) (b : Bank) (w n : ℕ) → BankTyped n b → n ≤ 10 ^ suc w
    → length (entry_lines letter (bank_seen ℓ b) 0 n) ≤ (18 + suc w) * n
entries_bound ℓ letter b w n t h = some_entries ℓ letter b w n 0 n t h (omega arith)

-- ---- the listing

-- The listing of a well-formed record whose numbers have their types takes at most 45,478 bytes: 34 for the E line,
-- 34 for each of two F lines, 20 for each of 16 R lines and 22 for each of 2,048 W lines.
pub listing_bound : (ℓ : ℕ) (s : State) → Fit (machine_of s) → ControlTyped s.control → Typed s
    → length (listing_for ℓ s) ≤ 45478
listing_bound ℓ s f c t =
    rw (listing_length ℓ s f.fixed.size_high)
    (omega (
      arith,
      head_bound ℓ s f c,
      entries_bound ℓ letter_r s.registers 1 register_count t.registers.numbers (omega arith),
      entries_bound ℓ letter_w s.memory 3 s.fixed.size t.memory (omega (arith, f.fixed.size_high)),
      f.fixed.size_high,
    ))
