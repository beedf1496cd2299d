use Rattle.std.proofs.Common.{◌≡◌, ◌+◌, ◌%◌, ◌^◌, ℕ, ap, arith}
use Rattle.sea_data.specs.Bytes.{block_address}
use Rattle.sea_data.proofs.part.address_of.Goals as goal

pub returns : goal.returns
unfolding block_address
returns c =
    let sum : c.args.onode.now.base.0 + (2 + c.from.result) ≡ c.args.onode.now.base.0 + 2 + c.args.index = omega (arith, c.from.ensures) in
    ap (λ (n : ℕ). n % 2 ^ 64) sum
