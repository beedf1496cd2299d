use Rattle.std.proofs.lemmas.Result.{err_from_is_err_and}
use Rattle.sea_ops.proofs.Asked.{find_fails}
use Rattle.sea_ops.proofs.writing.onode_of.Goals as goal

pub returns-in_err-onode-clause-failure : goal.returns-in_err-onode-clause-failure
returns-in_err-onode-clause-failure g c =
    let p = err_from_is_err_and c.from_residual.result c.from_residual.ensures.1 in
    rw (p.1, p.2) (find_fails c.args.name.now (g.S.Space.seen c.args.space.now) (g.S.Space.seen c.find.new.space) c.in_err-onode.field-0.0 c.in_err-onode.ensures.reads c.in_err-onode.ensures.fault)
