-- `hexloader::records::give_bytes` meets its contract: before turn i the first i bytes are given.
-- Assumes nothing.
use Prim.Native.Nat.{ℕ}
use mathlib.Core.List.{List}
use lib.ListN.{take, drop}
use Rattle.model.specs.Hex.{bytes}
use Rattle.hexloader.specs.Inner.Places.{numbers_of}
use Rattle.hexloader.proofs.Giving.{Giving}
use Rattle.hexloader.proofs.records.give_bytes.Given as goal

-- The bytes that the record gives.
abbrev pub given : List ℕ → ℕ → List ℕ
given text count = take count (drop 4 (bytes (drop 1 text)))

abbrev pub invariant-loop-i : goal.invariant-loop-i
invariant-loop-i l =
    Giving l.line l.address (given l.text l.count) (numbers_of l.initial.places) l.places l.i
