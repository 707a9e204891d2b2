-- `loader::load` meets its contract: the first line is refused, or the lines behind it are loaded.
-- Assumes nothing.
use mathlib.Core.Path.{refl}
use Rattle.std.specs.Prelude.{Ok}
use Rattle.std.proofs.lemmas.Result.{err_from_is_err_and}
use Rattle.model.specs.Record.{lent}
use Rattle.header.specs.Loading.{loading_of}
use Rattle.header.proofs.Room.{accepted_room, accepted_short}
use Rattle.loader.proofs.Answer.{Begun, first_refused, first_accepted, behind_loaded}
use Rattle.loader.proofs.load.Goals as goal
use Rattle.loader.proofs.load.Goals.{In_ok-header}

pub returns-in_err-header : goal.returns-in_err-header
returns-in_err-header c =
    let w = c.args.words.now in
    let l = c.args.labels.now in
    let told = err_from_is_err_and c.from_residual.result c.from_residual.ensures.1 in
    rw (told.1, told.2)
    (first_refused (record { reads = c.read_line-read.ensures; answers = c.in_err-header.ensures w l refl refl }) _ refl)

-- The first line was read and accepted.
begun : (c : In_ok-header)
    → (let w = c.args.words.now in
    let l = c.args.labels.now in
    Begun c.args.text.now (lent w l) c.read_line-read.result (loading_of (Ok c.in_ok-header.header) w l))
begun c =
    record {
      reads = c.read_line-read.ensures;
      answers = c.in_ok-header.ensures c.args.words.now c.args.labels.now refl refl;
    }

pub load_lines-requires : goal.load_lines-requires
load_lines-requires c =
    let accepted = first_accepted (begun (goal.at.load_lines-requires c).In_ok-header) refl in
    let room = accepted_room _ _ _ _ accepted in
    record {
      text_len_bound = accepted_short _ _ _ _ accepted;
      size_le_most_words = room.few;
      size_in_bounds = (room.words, room.labels);
    }

pub returns : goal.returns
returns c = behind_loaded (begun (goal.at.returns c).In_ok-header) refl _ c.load_lines.ensures
