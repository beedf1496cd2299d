use Rattle.std.proofs.Common.{length, reverse}
use Rattle.sea_tree.proofs.RootRebalances.{Passes}
use Rattle.sea_tree.proofs.rooting.planned.Given as goal

abbrev pub invariant-loop-write : goal.invariant-loop-write
invariant-loop-write l = Passes l.at.0 (reverse l.writes) (length l.yielded)
