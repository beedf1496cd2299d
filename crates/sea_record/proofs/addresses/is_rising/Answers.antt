use Rattle.std.proofs.Common.{arith, refl}
use Rattle.sea_record.proofs.AddressOrders.{ordered_none, ordered_more, rising}
use Rattle.sea_record.proofs.addresses.is_rising.Goals as goal

pub loop-i-init : goal.loop-i-init
loop-i-init c = ordered_none 1 c.args.addresses.now

pub loop-i-preserved : goal.loop-i-preserved
loop-i-preserved c = ordered_more 1 c.args.addresses.now c.loop-i.i c.loop-i.invariant (omega arith) (omega arith)

pub returns : goal.returns
returns c = (λ _. rising c.args.addresses.now c.loop-i.i (omega arith) c.loop-i.invariant, λ _. refl)
