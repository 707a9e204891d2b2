-- What the tests of an M line say of it, and what an answer on the first line says of the verdict.
-- Assumes nothing.
use Prim.Native.Nat.{ℕ}
use mathlib.Core.Path.{◌≡◌, sym, ap, ◌∙◌}
use mathlib.Core.Bool.{true, false}
use Rattle.causes.specs.declared.Cause.{Cause}
use Rattle.causes.specs.Causes.{Done, is_done}
use Rattle.causes.specs.Tests.{first_refusal}
use Rattle.causes.proofs.Numbers.{done_or_refused}
use Rattle.causes.proofs.Order.{all_pass}
use Rattle.model.specs.declared.judging.Header.{Header}
use Rattle.model.specs.Record.{Bank, Machine}
use Rattle.model.specs.Load.{header_in_range, header_tests, Verdict, refuse, accept, Loading}
use Rattle.model.proofs.Truth.{clash}
use Rattle.header.specs.Loading.{headed}

-- An M line is in its ranges, where its tests pass.
pub header_in_range_lem : (h : Header) (m : Bank) → Done ≡ first_refusal (header_tests h m) → header_in_range h ≡ true
unfolding header_tests
header_in_range_lem h m e = (all_pass (header_tests h m) (sym e)).0

-- An answer that is no refusal: the verdict accepts its record.
pub headed_accepts : (v : Verdict Machine) (m : Bank) (a : Loading) → a ≡ headed v m → a.outcome ≡ Done
    → v ≡ accept a.machine
headed_accepts (refuse c n) m a e z = done_or_refused z (ap (λ (x : Loading). x.outcome) e)
headed_accepts (accept r) m a e z = ap accept (sym (ap (λ (x : Loading). x.machine) e))

-- An answer that is a refusal is that of every load that goes on from the verdict.
pub headed_refuses : (v : Verdict Machine) (m : Bank) (a : Loading) → a ≡ headed v m → is_done a.outcome ≡ false
    → (f : Verdict Machine → Loading) → ((c : Cause) (n : ℕ) → f (refuse c n) ≡ headed (refuse c n) m) → a ≡ f v
headed_refuses (refuse c n) m a e z f g = e ∙ sym (g c n)
headed_refuses (accept r) m a e z f g = clash (ap (λ (x : Loading). is_done x.outcome) e) z
