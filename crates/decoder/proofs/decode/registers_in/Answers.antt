-- `decoder::decode::registers_in` meets its contract.
-- Assumes nothing.
use Prim.Native.Nat.{ℕ, ◌+◌}
use borrow.Author.Rules.{rules}
use mathlib.Core.Path.{◌≡◌, refl}
use Rattle.encoder.specs.Places as at
use Rattle.decoder.specs.Held.{word_at, low32, low_label, registers_in}
use Rattle.decoder.proofs.Lists.{made}
use Rattle.decoder.proofs.decode.registers_in.Goals as goal

pub returns : goal.returns
unfolding registers_in
returns c =
    let b = c.args.buffer.now in
    let values = made _ (λ p. p.0.now ≡ b) (λ (k : ℕ). low32 (word_at b (at.first_value + k))) (λ k x p q same called. (search rules, search rules)) _ _ _ refl c.from_fn.ensures.items in
    let labels = made _ (λ p. p.0.now ≡ b) (λ (k : ℕ). low_label (word_at b (at.first_label + k))) (λ k x p q same called. (search rules, search rules)) _ _ _ refl c.from_fn-2.ensures.items in
    rw (values, labels) refl
