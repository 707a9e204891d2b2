-- What is left to do after a load, in turn: run and print, or the line of a refusal. It is said for every record, also for
-- one that no load gives.
-- Assumes nothing.
use Rattle.std.specs.Prelude.{ℕ, cond, List, [], ◌∷◌, leb, length}
use Rattle.causes.specs.Causes.{number_of, is_done}
use Rattle.model.specs.Numbers.{letter_x}
use Rattle.model.specs.Record.{Bank}
use Rattle.model.specs.Answer.{Answer, run_answer}
use Rattle.model.specs.Load.{Loading}
use Rattle.model.specs.Listing.{line, Printing, print}
use Rattle.model.specs.Program.{Firing}
use Rattle.writer.specs.Writing.{Writing, answer, over}

-- The line of a refusal where it fits, and how many bytes it takes; else no byte.
unfoldable pub refusing : ℕ → ℕ → List ℕ → Writing
refusing number place out =
    let text = line letter_x (number ∷ place ∷ []) in
    cond (leb (length text) (length out)) (answer (length text) (over text out)) (answer 0 out)

-- What was written of such a line, and the memory, as a firing.
abbrev pub wrote : Writing → Bank → Firing
wrote w m = record { bytes = w.count; output = w.output; memory = m }

-- What was printed, and the memory, as a firing.
abbrev pub printed : Printing → Bank → Firing
printed p m = record { bytes = p.bytes; output = p.output; memory = m }

-- What a run has answered, printed.
abbrev pub printed_run : Answer → List ℕ → Firing
printed_run b out = printed (print b.machine b.memory out) b.memory

-- A load that is done is run and then printed; of a refused one the line is written, and memory is left.
unfoldable pub in_turn : Loading → List ℕ → Firing
in_turn a out =
    cond (is_done a.outcome) (printed_run (run_answer a.machine a.memory) out)
    (wrote (refusing (number_of a.outcome) a.line out) a.memory)
