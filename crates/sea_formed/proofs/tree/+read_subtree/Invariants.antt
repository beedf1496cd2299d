use Rattle.std.proofs.Common.{◌-◌}
use Rattle.sea_formed.specs.Blocks.{store_of}
use Rattle.sea_formed.proofs.Walks.{Collects}
use Rattle.sea_formed.proofs.tree.+read_subtree.Given as goal

abbrev pub decreases-read_subtree : goal.decreases-read_subtree
decreases-read_subtree l = l.level

abbrev pub invariant-loop-index : goal.invariant-loop-index
invariant-loop-index l = Collects (store_of l.blocks) (l.level - 1) l.at l.node.entries l.bounds.upper l.index l.tree.pairs.items l.tree.nodes.items
