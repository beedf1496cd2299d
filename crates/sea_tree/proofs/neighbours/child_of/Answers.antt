use Rattle.std.proofs.Common.{◌∙◌, ap}
use Rattle.std.proofs.lemmas.Result.{err_from_is_err_and}
use Rattle.sea_tree.specs.Tree.{child_bounds}
use Rattle.sea_tree.specs.Place.{meant}
use Rattle.sea_tree.proofs.Rebalances.{rebalance_fault}
use Rattle.sea_tree.proofs.Nears.{only_one}
use Rattle.sea_tree.proofs.neighbours.child_of.Goals as goal

pub returns-in_err-node-clause-fault : goal.returns-in_err-node-clause-fault
returns-in_err-node-clause-fault g c =
    let p = err_from_is_err_and c.from_residual-in_err-node.result c.from_residual-in_err-node.ensures.1 in
    rw (p.1, p.2)
    (rebalance_fault (g.S.Space.seen c.args.space.now) (g.S.Space.seen c.node_at.new.space) c.args.parent.now c.args.index c.args.level c.child_at-at.result.0 (meant c.in_ok-bounds.bounds) c.in_err-node.field-0.0 c.requires.index c.child_at-at.ensures
    (λ before after entry splits. c.in_ok-bounds.ensures before after entry splits ∙ ap (child_bounds entry after) c.as_ref.ensures.value)
    c.node_at.ensures.reads (g.met.S.Space.sound c.node_at.new.space) c.in_err-node.ensures.fault)

pub returns-clause-one : goal.returns-clause-one
returns-clause-one g c = only_one c.node_at.ensures.one
