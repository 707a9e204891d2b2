-- `decoder::decode::fixed_in` meets its contract.
-- Assumes nothing.
use Prim.Native.Nat.{ℕ, ◌+◌, ◌*◌}
use borrow.Author.Rules.{rules}
use mathlib.Core.Path.{◌≡◌, refl}
use Rattle.encoder.specs.Places as at
use Rattle.decoder.specs.Held.{gate_in, fixed_in}
use Rattle.decoder.proofs.Lists.{made}
use Rattle.decoder.proofs.decode.fixed_in.Goals as goal

pub returns : goal.returns
unfolding fixed_in
returns c =
    let b = c.args.buffer.now in
    let gates = made _ (λ p. p.0.now ≡ b) (λ (k : ℕ). gate_in b (at.first_gate + at.gate_span * k)) (λ k x p q same called. (search rules, search rules)) _ _ _ refl c.from_fn.ensures.items in
    rw (c.low32.ensures, c.word.ensures, c.low32-2.ensures, c.word-2.ensures, c.low32-3.ensures, c.word-3.ensures, c.low32-4.ensures, c.word-4.ensures, gates) refl
