use Rattle.std.proofs.Common.{rules, ◌≡◌, Some, None}
use Rattle.std.proofs.lemmas.Result.{IfOk-weaker, IfErr-weaker}
use Rattle.sea_formed.specs.Blocks.{store_of}
use Rattle.sea_formed.specs.Place.{meant}
use Rattle.sea_formed.proofs.Refuted.{refutes_more}
use Rattle.sea_formed.proofs.Walks.{empty_tree, whole_tree, root_subtree, no_root}
use Rattle.sea_formed.proofs.tree.read_tree.Goals as goal

pub returns-in_default-clause-tree : goal.returns-in_default-clause-tree
returns-in_default-clause-tree c =
    let none : store_of c.args.blocks.now c.args.root ≡ None = search rules in
    empty_tree (store_of c.args.blocks.now) c.args.root _ _ none c.new.ensures.items c.new-in_default.ensures.items

pub returns-in_default-2-clause-wrong : goal.returns-in_default-2-clause-wrong
returns-in_default-2-clause-wrong c =
    let here : Some c.in-Some.block.now ≡ store_of c.args.blocks.now c.args.root = search rules in
    no_root (store_of c.args.blocks.now) c.args.root c.in-Some.block.now here (search rules)

pub returns-clause-tree : goal.returns-clause-tree
returns-clause-tree c =
    IfOk-weaker c.read_subtree.result _ _ (λ tree holds. whole_tree (store_of c.args.blocks.now) c.in-Some-2.node.level c.args.root (meant c.in_ok-bounds.bounds) tree.pairs.items tree.nodes.items c.in_ok-bounds.ensures holds) c.read_subtree.ensures.holds

pub returns-clause-wrong : goal.returns-clause-wrong
returns-clause-wrong c =
    let here : Some c.in-Some.block.now ≡ store_of c.args.blocks.now c.args.root = search rules in
    IfErr-weaker c.read_subtree.result _ _ (λ wrong told. refutes_more wrong _ _ (root_subtree (store_of c.args.blocks.now) c.args.root c.in-Some-2.node.level c.in-Some-2.node.entries (meant c.in_ok-bounds.bounds) c.in_ok-bounds.ensures c.in-Some.block.now here (search rules)) told) c.read_subtree.ensures.wrong
