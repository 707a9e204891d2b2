-- From the comparison of the words of what was read with the buffer to what read answers.
-- Assumes nothing.
use Prim.Native.Nat.{ℕ}
use mathlib.Core.Path.{◌≡◌, refl, sym, ap, ◌∙◌}
use mathlib.Core.Bool.{Bool, true, false}
use mathlib.Core.List.{List}
use Rattle.std.specs.Bool.{then_some}
use Rattle.machine_record.specs.declared.Machine as struct
use Rattle.machine_record.specs.Struct.{record_of}
use Rattle.encoder.specs.Layout.{words_of}
use Rattle.decoder.specs.Held.{record_in, begins, machine_in}
use Rattle.decoder.specs.Reading.{read, read_of}

-- The words of what was read are compared with the buffer.
module _ (b : List ℕ) {m : struct.Machine} {words : List ℕ} (e : record_of m ≡ record_in b) (w : words ≡ words_of (record_of m)) where
  compared : {same : Bool} → same ≡ begins words b → begins (words_of (record_in b)) b ≡ same
  compared s = sym (s ∙ ap (λ (ws : List ℕ). begins ws b) (w ∙ ap words_of e))

  pub read_compared : (same : Bool) → same ≡ begins words b → read_of (then_some same m) ≡ read b
  unfolding read machine_in
  read_compared true s = rw (compared s, e) refl
  read_compared false s = rw (compared s) refl
