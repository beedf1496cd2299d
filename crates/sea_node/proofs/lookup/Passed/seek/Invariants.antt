use Rattle.std.proofs.Common.{◌-◌}
use Rattle.sea_node.proofs.Leaps.{Seeks}
use Rattle.sea_node.proofs.lookup.Passed.seek.Given as goal

abbrev pub invariant-seek : goal.invariant-seek
invariant-seek l = Seeks l.bytes l.level l.key l.first l.last

abbrev pub decreases-seek : goal.decreases-seek
decreases-seek l = 4096 - l.last.end
