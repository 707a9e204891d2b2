-- Labels over any number n of principals, in the order of document 01, "Labels". A label is the number i × 2^n + c.
-- Its integrity i (the paper's trust: by whom a thing is trusted) and its confidentiality c (its secrecy: whose secrets it
-- may hold) are sets of principals, one bit each.
-- Assumes nothing.
use Rattle.std.specs.Prelude.{ℕ, ◌+◌, ◌-◌, ◌*◌, ◌/◌, ◌%◌, ◌^◌, Bool, not, ◌&&◌, eqb}
use Rattle.std.specs.Int.Bits.{bit_and, bit_or, bit_xor}

-- Every member of x is a member of y.
unfoldable pub subset : ℕ → ℕ → Bool
subset x y = eqb (bit_and x y) x

-- None of these restrictions is lacking there: what is under them may go.
unfoldable pub may_go : ℕ → ℕ → Bool
may_go restricted lacked = eqb (bit_and restricted lacked) 0

module _ (n : ℕ) where
  -- The label with integrity i and confidentiality c.
  unfoldable pub label : ℕ → ℕ → ℕ
  label i c = i * 2 ^ n + c

  -- The trust i of a label.
  unfoldable pub integrity : ℕ → ℕ
  integrity l = l / 2 ^ n

  -- The secrecy c of a label.
  unfoldable pub confidentiality : ℕ → ℕ
  confidentiality l = l % 2 ^ n

  -- (i, c) flows to (i', c') when i' is a subset of i and c a subset of c'.
  unfoldable pub flows : ℕ → ℕ → Bool
  flows l m = subset (integrity m) (integrity l) && subset (confidentiality l) (confidentiality m)

  -- The join: (i and i', c or c').
  unfoldable pub join : ℕ → ℕ → ℕ
  join l m = label (bit_and (integrity l) (integrity m)) (bit_or (confidentiality l) (confidentiality m))

  -- The meet: (i or i', c and c').
  unfoldable pub meet : ℕ → ℕ → ℕ
  meet l m = label (bit_or (integrity l) (integrity m)) (bit_and (confidentiality l) (confidentiality m))

  -- The reflection swaps i and c.
  unfoldable pub reflection : ℕ → ℕ
  reflection l = label (confidentiality l) (integrity l)

  -- Uncompromised (the paper's sound): c is a subset of i.
  unfoldable pub uncompromised : ℕ → Bool
  uncompromised l = subset (confidentiality l) (integrity l)

  -- A pair of pc label and timing label is valid when p flows to t and both are sound.
  unfoldable pub valid_pair : ℕ → ℕ → Bool
  valid_pair p t = flows p t && uncompromised p && uncompromised t

  -- The lowest label: trusted by all, nobody's secret.
  unfoldable pub lowest : ℕ
  lowest = label (2 ^ n - 1) 0

  -- The highest label: trusted by none; it may hold everyone's secrets.
  unfoldable pub highest : ℕ
  highest = label 0 (2 ^ n - 1)

  -- Raise of l to m under p: p flows to l, l to m, and m to the reflection of p.
  unfoldable pub may_raise : ℕ → ℕ → ℕ → Bool
  may_raise p l m = flows p l && flows l m && flows m (reflection p)

  -- Relabel of l to m under p: p flows to the meet of l and m, l is sound, m flows to the reflection of p.
  unfoldable pub may_relabel : ℕ → ℕ → ℕ → Bool
  may_relabel p l m = flows p (meet l m) && uncompromised l && flows m (reflection p)

  -- Trusted, where a person is trusted with the set j: i isn't within j.
  unfoldable pub trusted : ℕ → ℕ → Bool
  trusted j l = not (subset (integrity l) j)

  -- Secret, where a person is shut out from the secrets of the set s: c includes s.
  unfoldable pub secret : ℕ → ℕ → Bool
  secret s l = subset s (confidentiality l)

  -- The restrictions of l: who doesn't trust it, and whose secrets it may hold.
  unfoldable pub restrictions : ℕ → ℕ
  restrictions l = bit_xor l (lowest)

  -- The restrictions that l lacks.
  unfoldable pub lacking : ℕ → ℕ
  lacking l = bit_xor l (highest)
