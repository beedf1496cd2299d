use Rattle.std.proofs.Common.{rules, ◌≡◌, Some}
use Rattle.sea_formed.specs.Blocks.{store_of}
use Rattle.sea_formed.specs.Place.{meant}
use Rattle.sea_formed.proofs.Placed.{only_node}
use Rattle.sea_formed.proofs.place.node_at.Goals as goal

pub returns-then-node-level-clause-wrong : goal.returns-then-node-level-clause-wrong
returns-then-node-level-clause-wrong c = λ has.
    let here : Some c.in-Some.block.now ≡ store_of c.args.blocks.now c.args.at = search rules in
    c.if-node-level.true (only_node (store_of c.args.blocks.now) c.args.level c.args.at (meant c.args.bounds.now) c.in-Some.block.now c.in-Some-2.node.level c.in-Some-2.node.entries here (search rules) has.0 has.1).0

pub returns-then-not-admits-clause-wrong : goal.returns-then-not-admits-clause-wrong
returns-then-not-admits-clause-wrong c = λ has.
    let here : Some c.in-Some.block.now ≡ store_of c.args.blocks.now c.args.at = search rules in
    let one = only_node (store_of c.args.blocks.now) c.args.level c.args.at (meant c.args.bounds.now) c.in-Some.block.now c.in-Some-2.node.level c.in-Some-2.node.entries here (search rules) has.0 has.1 in
    let told = c.admits.ensures.1 (rw one.0 one.1) in
    let not = c.if-not-admits.true in cc
