use Rattle.sea_tree.specs.Plan.{changes_of}
use Rattle.sea_tree.proofs.RootRebalances.{node_over, root_splits}
use Rattle.sea_tree.proofs.rooting.split_root.Goals as goal

pub plan_node-requires-3 : goal.plan_node-requires-3
plan_node-requires-3 g c =
    node_over c.args.node.now.level c.args.root.0 c.args.node.now.entries c.requires.near c.in_ok-front.front c.in_ok-front.back c.in_ok-front.ensures c.requires.low c.in_ok-entries_over.field-0 c.in_ok-left.left.0 c.in_ok-entries_over.ensures

pub returns-clause-split : goal.returns-clause-split
returns-clause-split g c =
    root_splits c.args.node.now.level c.args.root.0 c.args.node.now.entries c.requires.near c.in_ok-front.front c.in_ok-front.back c.in_ok-front.ensures c.requires.low c.in_ok-entries_over.field-0 c.in_ok-left.left.0 c.in_ok-entries_over.ensures
    (g.S.Space.seen c.args.space.now) (g.S.Space.seen c.alloc.new.self) (changes_of c.args.writes.now) (changes_of c.plan_node.new.writes) (changes_of c.plan_node-2.new.writes) (changes_of c.plan_node-3.new.writes)
    c.requires.large c.in_ok-left.ensures.first c.in_ok-left.ensures.given.next c.in_ok-plan_node.ensures.planned c.in_ok-plan_node-2.ensures.planned c.in_ok-plan_node-3.ensures.planned
