-- What each call of the library answers and leaves, for every buffer and every length. A record stands in a buffer as the crates
-- encoder and decoder have it; what its calls share, and the numbers of refusals, are in record_calls.
-- Assumes nothing.
use Rattle.std.specs.Prelude.{ℕ, ◌+◌, List, ◌∷◌, drop}
use Rattle.labels.specs.Label.{highest}
use Rattle.causes.specs.Causes.{number_of}
use Rattle.model.specs.Record.{Bank, lent}
use Rattle.model.specs.Answer.{step_answer, run_answer, run_to_answer}
use Rattle.model.specs.Load.{load}
use Rattle.model.specs.HexLoad.{load_hex}
use Rattle.model.specs.Listing.{Printing, print_for}
use Rattle.certificates.specs.Certificate.{Certificate, Certifying, certifying}
use Rattle.model.specs.View.{View, view}
use Rattle.encoder.specs.Places.{span}
use Rattle.decoder.specs.Held.{Holding, holds, nothing, machine_in}
use Rattle.record_calls.specs.RecordCalls.{no_record, unless_short, Left, untouched, kept, record_call}
use Rattle.load_calls.specs.Loads.{counted, after_loading, LeftLine, after_loading_hex}

-- ---- calls that may change a record: load, step, run, run to a tick

-- jennydusk_step.
unfoldable pub step_call : List ℕ → Bank → Left
step_call b m = record_call step_answer b m

-- jennydusk_run.
unfoldable pub run_call : List ℕ → Bank → Left
run_call b m = record_call run_answer b m

-- jennydusk_run_to.
unfoldable pub run_to_call : ℕ → List ℕ → Bank → Left
run_to_call k b m = record_call (run_to_answer k) b m

-- jennydusk_load.
unfoldable pub load_call : List ℕ → Bank → List ℕ → Left
load_call text m b = unless_short (untouched b m) span b (after_loading (load text m) b)

-- ---- load from HEX, whose line stands in a lent word

-- All is left, the line too.
abbrev pub untouched_line : List ℕ → Bank → ℕ → ℕ → LeftLine
untouched_line b m line answer = record { left = untouched b m answer; line = line }

-- jennydusk_load_hex.
unfoldable pub load_hex_call : List ℕ → List ℕ → ℕ → Bank → List ℕ → ℕ → LeftLine
load_hex_call text hex label m b line =
    unless_short (untouched_line b m line) span b (after_loading_hex (load_hex text hex label m) b)

-- ---- certify, which loads and runs a text and writes a certificate

-- How many words a certificate takes.
abbrev pub certificate_span : ℕ
certificate_span = 3

-- The buffer with a certificate's words at its start: cause, tick and place.
abbrev pub holding_certificate : Certificate → List ℕ → List ℕ
holding_certificate c b = c.cause ∷ c.tick ∷ c.place ∷ drop certificate_span b

-- After the answer of certify: its number and line.
abbrev pub after_certifying : Certifying → List ℕ → Left
after_certifying a b =
    record {
      answer = counted (number_of a.outcome) a.line;
      buffer = kept a.outcome (holding_certificate a.certificate b) b;
      memory = a.memory;
    }

-- jennydusk_certify.
unfoldable pub certify_call : ℕ → List ℕ → Bank → List ℕ → Left
certify_call ℓ text m b = unless_short (untouched b m) certificate_span b (after_certifying (certifying ℓ text m) b)

-- ---- print, which changes the output alone

-- The answer, and the output at exit.
pub record Shown : Type 0 where
  pub answer : ℕ
  pub output : List ℕ

-- These two.
abbrev pub shown : ℕ → List ℕ → Shown
shown answer output = record { answer = answer; output = output }

-- After the answer of print: its number and the listing's length.
abbrev pub after_printing : Printing → Shown
after_printing a = shown (counted (number_of a.outcome) a.bytes) a.output

-- The output is left.
abbrev pub unwritten : List ℕ → ℕ → Shown
unwritten out answer = shown answer out

-- Print for the label ℓ of what a buffer holds.
abbrev pub printed : ℕ → Holding → Bank → List ℕ → Shown
printed ℓ nothing m out = unwritten out no_record
printed ℓ (holds r) m out = after_printing (print_for ℓ r m out)

-- jennydusk_print_for.
unfoldable pub print_for_call : ℕ → List ℕ → Bank → List ℕ → Shown
print_for_call ℓ b m out = unless_short (unwritten out) span b (printed ℓ (machine_in b) m out)

-- jennydusk_print: the listing of the highest label, which sees everything.
unfoldable pub print_call : List ℕ → Bank → List ℕ → Shown
print_call b m out = print_for_call highest b m out

-- ---- view, which loads a text, runs it to a tick and writes a listing

-- The answer, the output and the lent memory at exit.
pub record Looked : Type 0 where
  pub answer : ℕ
  pub output : List ℕ
  pub memory : Bank

-- These three.
abbrev pub looked : ℕ → List ℕ → List ℕ → List ℕ → Looked
looked answer output words labels = record { answer = answer; output = output; memory = lent words labels }

-- After the answer of view: its number, and the line, the limit or the listing's length, of which two are always 0.
abbrev pub after_viewing : View → Looked
after_viewing a =
    record { answer = counted (number_of a.outcome) (a.value + a.bytes); output = a.output; memory = a.memory }

-- jennydusk_view.
unfoldable pub view_call : List ℕ → ℕ → ℕ → Bank → List ℕ → Looked
view_call text ℓ k m out = after_viewing (view ℓ k text m out)
