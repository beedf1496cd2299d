use Rattle.std.proofs.Common.{sym, ◌∙◌}
use Rattle.sea_object.specs.Op.{takes}
use Rattle.sea_object.proofs.Scans.{any_here, any_later}
use Rattle.sea_object.proofs.request.some_takes.Goals as goal

pub returns-then-takes : goal.returns-then-takes
returns-then-takes c =
    any_here takes c.args.ops.now c.loop-op.op-index c.op-item.result c.loop-op-test.true c.op-item.is (sym c.if-takes.true ∙ c.takes.ensures) ∙ c.loop-op.invariant

pub loop-op-preserved : goal.loop-op-preserved
loop-op-preserved c =
    any_later takes c.args.ops.now c.loop-op.op-index c.op-item.result c.loop-op-test.true c.op-item.is (sym c.if-takes.false ∙ c.takes.ensures) ∙ c.loop-op.invariant
