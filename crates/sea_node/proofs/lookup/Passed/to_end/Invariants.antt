use Rattle.std.proofs.Common.{◌-◌}
use Rattle.sea_node.proofs.Leaps.{GoesFar}
use Rattle.sea_node.proofs.lookup.Passed.to_end.Given as goal

abbrev pub invariant-rest : goal.invariant-rest
invariant-rest l = GoesFar l.bytes l.level l.self l.last

abbrev pub decreases-rest : goal.decreases-rest
decreases-rest l = 4096 - l.last.end
