use Rattle.std.proofs.Common.{arith}
use Rattle.sea_node.proofs.Leaps.{like_spans}
use Rattle.sea_node.proofs.leap.is_like.Goals as goal

pub returns : goal.returns
returns c like =
    like_spans c.args.bytes.now c.requires.block c.args.first c.requires.first c.args.at c.u16_at.result (omega arith) (omega arith) c.u16_at.ensures.spelled (omega arith)
