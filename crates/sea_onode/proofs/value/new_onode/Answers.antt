use Rattle.std.proofs.Common.{refl, arith}
use Rattle.sea_onode.proofs.Order.{order-later, new_fits}
use Rattle.sea_onode.proofs.value.new_onode.Goals as goal

pub returns-clause-fits : goal.returns-clause-fits
returns-clause-fits c store onodes name o = (order-later store c.args.base.0 onodes o _ (omega arith), new_fits store c.args.base.0 onodes o name _ refl refl refl refl)
