-- Computed facts about views: what a run to a tick does at its edges, and that the promise to a viewer needs its provisos.
-- Assumes nothing.
use Rattle.std.specs.Prelude.{ℕ, ◌^◌, Bool, true, false, not, ◌&&◌, List, [], ◌∷◌, eqb, take}
use Rattle.model.specs.Numbers.{letter_h, lf}
use Rattle.model.specs.Record.{State}
use Rattle.model.specs.Step.{run_to}
use Rattle.model.specs.Listing.{listing_for}
use Rattle.witnesses.specs.Witness.{fixed_of, usual, left, right, downgrading, calling_gate, timed_by_secret, under, nothing_there, gate_called}

-- Two texts are one.
unfoldable pub same_text : List ℕ → List ℕ → Bool
same_text [] [] = true
same_text [] (y ∷ ys) = false
same_text (x ∷ xs) [] = false
same_text (x ∷ xs) (y ∷ ys) = eqb x y && same_text xs ys

-- The two list the same for 240 at tick k.
abbrev pub list_alike : ℕ → State → State → Bool
list_alike k s t = same_text (listing_for 240 (run_to k s)) (listing_for 240 (run_to k t))

-- The machines of the theorem's witnesses: alike at 240 when loaded, and of one setting.
abbrev pub list_table : List Bool
list_table =
    -- in the hidden upcall, where they run differently, and at the end: one listing
    list_alike 5 (left 240) (right 240)
    ∷ list_alike 14 (left 240) (right 240)
    -- where the first proviso alone is broken, the second, the third: two
    ∷ not (list_alike 2 (downgrading 0) (downgrading 1))
    ∷ not (list_alike 4 (calling_gate 0) (calling_gate 1))
    ∷ not (list_alike 5 (timed_by_secret 0) (timed_by_secret (2 ^ 31)))
    -- in the upcall the line H stands for the others
    ∷ same_text (take 2 (listing_for 240 (run_to 5 (left 240)))) (letter_h ∷ lf ∷ [])
    ∷ []

-- After the run to tick k, this clock and this end.
abbrev pub stands_at : ℕ → State → ℕ → ℕ → Bool
stands_at k s clock end = eqb (run_to k s).control.clock clock && eqb (run_to k s).control.end end

-- The edges of a run to a tick.
abbrev pub edge_table : List Bool
edge_table =
    -- the fetch fails, in 1 tick; then the run stalls there: a stall at the tick is done
    stands_at 0 (under usual nothing_there) 0 0
    ∷ stands_at 1 (under usual nothing_there) 1 3
    -- a gate call takes 4 ticks: it isn't begun where it would pass the tick
    ∷ stands_at 3 (under usual gate_called) 0 0
    ∷ stands_at 4 (under usual gate_called) 4 0
    -- with the limit 1, at tick 1 the clock is spent, and before it isn't
    ∷ stands_at 0 (under (fixed_of 12 1 11 3 2) nothing_there) 0 0
    ∷ stands_at 1 (under (fixed_of 12 1 11 3 2) nothing_there) 1 2
    -- a tick above the limit runs to the end
    ∷ stands_at 1000 (under (fixed_of 12 1 11 3 2) nothing_there) 1 2
    ∷ []
