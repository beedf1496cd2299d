use Rattle.sea_record.proofs.AddressOrders.{InOrder}
use Rattle.sea_record.proofs.addresses.is_rising.Given as goal

abbrev pub invariant-loop-i : goal.invariant-loop-i
invariant-loop-i l = InOrder 1 l.addresses l.i
