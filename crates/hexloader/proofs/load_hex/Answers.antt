-- `hexloader::load_hex` meets its contract: the M text is refused, or the records are loaded.
-- Assumes nothing.
use mathlib.Core.Path.{refl, ◌∙◌}
use Rattle.model.specs.Record.{lent}
use Rattle.machine_record.specs.Struct.{record_of}
use Rattle.header.proofs.Room.{Room}
use Rattle.hexloader.proofs.Judging.{handed_on}
use Rattle.hexloader.proofs.Answer.{text_refused, text_room, text_accepted}
use Rattle.hexloader.proofs.load_hex.Goals as goal
use Rattle.hexloader.proofs.load_hex.Goals.{In_ok-machine}

pub returns-in_err-machine : goal.returns-in_err-machine
returns-in_err-machine c =
    rw (handed_on c.from_residual.result _ c.from_residual.ensures.1)
    (text_refused c.args.text.now c.args.hex.now c.args.label (lent c.args.words.now c.args.labels.now) _
    (c.in_err-machine.ensures _ _ refl refl) refl)

-- The lent memory has room for the machine's words.
room : (c : In_ok-machine) → Room (lent c.args.words.now c.args.labels.now) (record_of c.in_ok-machine.machine)
room c =
    text_room c.args.text.now c.args.hex.now c.args.label (lent c.args.words.now c.args.labels.now) _
    (c.in_ok-machine.ensures _ _ refl refl) refl

pub load_records-requires-clause-size_le_most_words : goal.load_records-requires-clause-size_le_most_words
load_records-requires-clause-size_le_most_words c = (room (goal.at.load_records-requires-clause-size_le_most_words c).In_ok-machine).few

pub load_records-requires-clause-size_in_bounds : goal.load_records-requires-clause-size_in_bounds
load_records-requires-clause-size_in_bounds c =
    let r = room (goal.at.load_records-requires-clause-size_in_bounds c).In_ok-machine in (r.words, r.labels)

pub returns : goal.returns
returns c =
    c.load_records.ensures
    ∙ text_accepted c.args.text.now c.args.hex.now c.args.label (lent c.args.words.now c.args.labels.now) _
    (c.in_ok-machine.ensures _ _ refl refl) refl
