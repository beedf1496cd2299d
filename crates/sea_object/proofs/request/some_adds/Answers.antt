use Rattle.std.proofs.Common.{sym, ◌∙◌}
use Rattle.sea_object.specs.Op.{adds}
use Rattle.sea_object.proofs.Scans.{any_here, any_later}
use Rattle.sea_object.proofs.request.some_adds.Goals as goal

pub returns-then-adds : goal.returns-then-adds
returns-then-adds c =
    any_here adds c.args.ops.now c.loop-op.op-index c.op-item.result c.loop-op-test.true c.op-item.is (sym c.if-adds.true ∙ c.adds.ensures) ∙ c.loop-op.invariant

pub loop-op-preserved : goal.loop-op-preserved
loop-op-preserved c =
    any_later adds c.args.ops.now c.loop-op.op-index c.op-item.result c.loop-op-test.true c.op-item.is (sym c.if-adds.false ∙ c.adds.ensures) ∙ c.loop-op.invariant
