use Rattle.std.proofs.Common.{◌∙◌, ap, arith}
use Rattle.sea_engine.specs.Engine.{phases_from}
use Rattle.sea_engine.proofs.Stages.{phases_more}
use Rattle.sea_engine.proofs.opening.first_states.Goals as goal

pub loop-index-preserved : goal.loop-index-preserved
loop-index-preserved c = λ transaction.
    let i = c.loop-index.index in
    let plan = c.args.plan.now in
    ap (λ ss. phases_from 1 ss transaction) c.in_ok-push.ensures.items
    ∙ phases_more plan i c.loop-index.states.items c.rested.result transaction (omega (arith, c.loop-index-test.true, c.clients-index-end.ensures)) (c.loop-index.invariant transaction) c.rested.ensures
