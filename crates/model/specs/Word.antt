-- A word of the program, taken apart: document 01, "One step", its first paragraph. A word is
-- op × 2^24 + a × 2^20 + b × 2^16 + n; c is n's top four bits and d the next four. Unused bits are ignored. A pc
-- counts words (a departure from the source).
-- Assumes nothing.
use Rattle.std.specs.Prelude.{ℕ, zero, suc, ◌+◌, ◌-◌, ◌*◌, ◌/◌, ◌%◌, ◌^◌, cond, List, [], ◌∷◌, ltb, eqb}
use Rattle.std.proofs.Math.Option.{Option, none}
use Rattle.std.specs.Int.Bits.{bit_and, bit_or, bit_xor}
use Rattle.std.proofs.Math.ListN.{get_elem?}

-- The op's number.
unfoldable pub op_field : ℕ → ℕ
op_field w = w / 2 ^ 24

-- The register number a.
unfoldable pub a_field : ℕ → ℕ
a_field w = w / 2 ^ 20 % 2 ^ 4

-- The register number b.
unfoldable pub b_field : ℕ → ℕ
b_field w = w / 2 ^ 16 % 2 ^ 4

-- The number n.
unfoldable pub n_field : ℕ → ℕ
n_field w = w % 2 ^ 16

-- The register number c: n's top four bits.
unfoldable pub c_field : ℕ → ℕ
c_field w = n_field w / 2 ^ 12

-- The register number d: the next four.
unfoldable pub d_field : ℕ → ℕ
d_field w = n_field w / 2 ^ 8 % 2 ^ 4

-- Ops 2 to 8, and the two divisions that document 01 does not have: 23, the quotient, and 24, the remainder.
pub data Arithmetic : Type 0 where
  add subtract and or xor less multiply divide remainder : Arithmetic

-- Ops 11 and 12.
pub data Comparison : Type 0 where
  equal below : Comparison

-- Ops 15 and 16.
pub data Rule : Type 0 where
  raise relabel : Rule

-- The ops.
pub data Op : Type 0 where
  immediate : Op
  arithmetic : Arithmetic → Op
  load store : Op
  branch : Comparison → Op
  jump read_clock : Op
  set_label : Rule → Op
  set_pair upcall end_upcall gate_call gate_return halt : Op

-- The ops in the order of their numbers, from 1 to 24.
abbrev pub ops : List Op
ops =
    immediate
    ∷ arithmetic add
    ∷ arithmetic subtract
    ∷ arithmetic and
    ∷ arithmetic or
    ∷ arithmetic xor
    ∷ arithmetic less
    ∷ arithmetic multiply
    ∷ load
    ∷ store
    ∷ branch equal
    ∷ branch below
    ∷ jump
    ∷ read_clock
    ∷ set_label raise
    ∷ set_label relabel
    ∷ set_pair
    ∷ upcall
    ∷ end_upcall
    ∷ gate_call
    ∷ gate_return
    ∷ halt
    ∷ arithmetic divide
    ∷ arithmetic remainder
    ∷ []

-- The op of a number, or none where it is unknown.
unfoldable pub decode : ℕ → Option Op
decode zero = none
decode (suc k) = get_elem? ops k

-- What the arithmetic ops compute. Add, subtract and multiply keep the low 32 bits. A divisor of 0 gives 2^32 - 1 for
-- the quotient and the dividend for the remainder, as RISC-V has it.
unfoldable pub compute : Arithmetic → ℕ → ℕ → ℕ
compute add x y = (x + y) % 2 ^ 32
compute subtract x y = (x + (2 ^ 32 - y)) % 2 ^ 32
compute and x y = bit_and x y
compute or x y = bit_or x y
compute xor x y = bit_xor x y
compute less x y = cond (ltb x y) 1 0
compute multiply x y = x * y % 2 ^ 32
compute divide x y = cond (eqb y 0) (2 ^ 32 - 1) (x / y)
compute remainder x y = cond (eqb y 0) x (x % y)
