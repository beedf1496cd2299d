use Rattle.sea_record.proofs.AddressOrders.{InOrder}
use Rattle.sea_record.proofs.addresses.never_falls.Given as goal

abbrev pub invariant-loop-i : goal.invariant-loop-i
invariant-loop-i l = InOrder 0 l.addresses l.i
