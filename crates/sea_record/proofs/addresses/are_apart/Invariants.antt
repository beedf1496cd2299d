use Rattle.std.proofs.Common.{◌+◌, ◌-◌, length}
use Rattle.sea_record.proofs.AddressOrders.{Passed}
use Rattle.sea_record.proofs.addresses.are_apart.Given as goal

abbrev pub invariant-loop-i : goal.invariant-loop-i
invariant-loop-i l = Passed l.first l.second l.i l.j

abbrev pub decreases-loop-i : goal.decreases-loop-i
decreases-loop-i l = (length l.first - l.i) + (length l.second - l.j)
