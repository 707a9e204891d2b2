-- An attempt to release a register, as its functions promise it.
-- Assumes nothing.
use Rattle.std.specs.Prelude.{ℕ, ◌+◌, Bool, false, not, ◌&&◌, cond, List, Option, Some, None, leb, ltb, eqb, get_or}
use Rattle.labels.specs.Label.{flows, reflection}
use Rattle.model.specs.declared.Control.{Control}
use Rattle.model.specs.Record.{is_upcall, end_tick_of, newest}
use Rattle.model.specs.Word.{op_field, a_field, b_field, decode}
use Rattle.model.specs.Ops.{is_label}
use Rattle.model.specs.Step.{known}
use Rattle.model.specs.Seen.{within}
use Rattle.parts.specs.Calls.{deadline_of}
use Rattle.engine.specs.Stride.{fetches_relabelling}

-- The op of a word relabels.
abbrev pub relabels : ℕ → Bool
relabels w = fetches_relabelling (known w (decode (op_field w)))

-- What is fetched at the pc under the pc label p, with these words and labels: a word, if it relabels.
unfoldable pub relabelling_at : ℕ → ℕ → ℕ → List ℕ → List ℕ → Option ℕ
relabelling_at size pc p words marks =
    cond (ltb pc size && flows (get_or marks pc 0) p && relabels (get_or words pc 0)) (Some (get_or words pc 0)) None

-- A register labelled `old` is to get the label `new`, which is labelled `source`, under p: a release to within ℓ.
unfoldable pub tries_with : ℕ → ℕ → ℕ → ℕ → ℕ → Bool
tries_with ℓ p old source new =
    within ℓ p && not (within ℓ old) && is_label new && within ℓ new && flows source p && flows p new
    && flows new (reflection p)

-- What was fetched tries so, with these registers.
abbrev pub releases_with : ℕ → ℕ → Option ℕ → List ℕ → List ℕ → Bool
releases_with ℓ p (Some w) values labels =
    tries_with ℓ p (get_or labels (a_field w) 0) (get_or labels (b_field w) 0) (get_or values (b_field w) 0)
releases_with ℓ p None values labels = false

-- A relabelling takes two ticks: it is carried out, or passes by.
unfoldable pub has_time : ℕ → Control → Bool
has_time limit c =
    eqb c.end 0 && leb (c.clock + 2) (deadline_of (is_upcall (newest c)) (end_tick_of (newest c)) limit)
