use Rattle.std.proofs.Common.{drop}
use Rattle.sea_node.proofs.Places.{Passed}
use Rattle.sea_node.proofs.node.Node.place.Given as goal

abbrev pub invariant-loop-at : goal.invariant-loop-at
invariant-loop-at l = Passed l.key l.fn.self.entries (drop l.at-index l.at-items) l.before
