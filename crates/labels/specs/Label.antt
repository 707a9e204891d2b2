-- The labels of the machine: those over four principals. The number of principals stands here and nowhere else.
-- Assumes nothing.
use Rattle.std.specs.Prelude.{ℕ, ◌+◌, ◌^◌, Bool}
use Rattle.principals.specs.Principals as over

-- How many principals there are.
abbrev pub principals : ℕ
principals = 4

-- The labels are the numbers below this one.
abbrev pub label_count : ℕ
label_count = 2 ^ (principals + principals)

-- l flows to m.
abbrev pub flows : ℕ → ℕ → Bool
flows = over.flows principals

-- The join of l and m.
abbrev pub join : ℕ → ℕ → ℕ
join = over.join principals

-- The meet of l and m.
abbrev pub meet : ℕ → ℕ → ℕ
meet = over.meet principals

-- The reflection of l.
abbrev pub reflection : ℕ → ℕ
reflection = over.reflection principals

-- l is sound.
abbrev pub uncompromised : ℕ → Bool
uncompromised = over.uncompromised principals

-- The pair of pc label p and timing label t is valid.
abbrev pub valid_pair : ℕ → ℕ → Bool
valid_pair = over.valid_pair principals

-- The lowest label, 240.
abbrev pub lowest : ℕ
lowest = over.lowest principals

-- The highest label, 15.
abbrev pub highest : ℕ
highest = over.highest principals

-- l may be raised to m under p.
abbrev pub may_raise : ℕ → ℕ → ℕ → Bool
may_raise = over.may_raise principals

-- l may be relabelled to m under p.
abbrev pub may_relabel : ℕ → ℕ → ℕ → Bool
may_relabel = over.may_relabel principals

-- l is trusted, where a person is trusted with the set j.
abbrev pub trusted : ℕ → ℕ → Bool
trusted = over.trusted principals

-- l is secret, where a person is shut out from the secrets of the set s.
abbrev pub secret : ℕ → ℕ → Bool
secret = over.secret principals

-- The restrictions of l: who doesn't trust it, and whose secrets it may hold.
abbrev pub restrictions : ℕ → ℕ
restrictions = over.restrictions principals

-- The restrictions that l lacks.
abbrev pub lacking : ℕ → ℕ
lacking = over.lacking principals
