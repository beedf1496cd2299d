use Rattle.std.proofs.Common.{sym}
use Rattle.sea_tree.proofs.Leaves.{known_empty}
use Rattle.sea_tree.proofs.Lookups.{leaf_value}
use Rattle.sea_tree.proofs.reading.get.Goals as goal

pub returns-in_default-clause-value : goal.returns-in_default-clause-value
returns-in_default-clause-value g c store content meets =
    sym (known_empty (g.S.Space.seen c.args.space.now) (g.S.Space.seen c.look_up.new.space) c.args.root.0 c.in_ok-leaf.ensures.reads (g.met.S.Space.sound c.look_up.new.space) store content meets.agrees meets.content c.in_ok-leaf.ensures.known (rw c.in_default.is at c.in_ok-leaf.ensures.none) c.args.key.now)

pub returns-clause-value : goal.returns-clause-value
returns-clause-value g c store content meets =
    let held = rw c.in-Some.is at c.in_ok-leaf.ensures.leaf in
    leaf_value (g.S.Space.seen c.args.space.now) (g.S.Space.seen c.look_up.new.space) c.args.root.0 c.args.key.now _ c.in_ok-leaf.ensures.reads (g.met.S.Space.sound c.look_up.new.space) held store content meets.agrees meets.content
