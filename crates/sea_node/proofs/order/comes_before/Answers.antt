use Rattle.std.proofs.Common.{arith}
use Rattle.std.proofs.lemmas.Bool.Decides.{Decides-ltb}
use Rattle.sea_base.proofs.Words.{words_apart}
use Rattle.sea_node.proofs.order.comes_before.Goals as goal

pub returns-then-front-other : goal.returns-then-front-other
returns-then-front-other c =
    let apart = words_apart c.u64_at-front.result c.u64_at-other.result c.args.first.now c.args.second.now (omega arith) (omega arith) c.u64_at-front.ensures.spelled c.u64_at-other.ensures.spelled c.if-front-other.true in
    let tells = Decides-ltb c.u64_at-front.result c.u64_at-other.result in
    (λ lt. apart.0 (tells.0 lt), λ below. tells.1 (apart.1 below))
