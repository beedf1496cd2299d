use Rattle.sea_tree.proofs.RootRebalances.{Passes}
use Rattle.sea_tree.proofs.plan.is_planned.Given as goal

abbrev pub invariant-loop-write : goal.invariant-loop-write
invariant-loop-write l = Passes l.at.0 l.write-items l.write-index
