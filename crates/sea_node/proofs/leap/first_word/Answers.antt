use Rattle.std.proofs.Common.{◌<◌, ◌^◌, arith}
use Rattle.sea_base.proofs.Words.{words_apart}
use Rattle.sea_node.proofs.leap.first_word.Goals as goal

pub returns : goal.returns
returns c other has =
    let low : c.u64_at.result < 256 ^ 8 = omega arith in
    let apart = words_apart has.0 c.u64_at.result other c.args.key.now (omega (arith, has.1, low)) low has.2 c.u64_at.ensures.spelled (λ same. omega (arith, has.1, same)) in
    apart.0 has.1
