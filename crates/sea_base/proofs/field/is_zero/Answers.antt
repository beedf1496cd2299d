use Rattle.std.proofs.Common.{◌≡◌, ◌≤◌, ℕ, List, length, get_or, ap, ◌∙◌, arith}
use Rattle.std.proofs.lemmas.Bool.Decides.{Decides-eqb}
use Rattle.sea_base.proofs.Slices.{zeros_each, each_zero}
use Rattle.sea_base.proofs.field.is_zero.Goals as goal

pub returns : goal.returns
returns c =
    let bytes = c.args.bytes.now in
    let greatest = c.loop-byte.greatest in
    let decides = Decides-eqb greatest 0 in (
      (λ is. zeros_each bytes (λ k within.
          let below : get_or bytes k 0 ≤ greatest = c.loop-byte.invariant.greatest k (omega arith) in
          let zero : greatest ≡ 0 = decides.0 is in
          omega arith)),
      (λ zeros. decides.1 (c.loop-byte.invariant.zero (λ k. ap (λ (x : List ℕ). get_or x k 0) zeros ∙ each_zero (length bytes) k))),
    )
