use Rattle.std.proofs.Common.{take}
use Rattle.std.specs.List.{All}
use Rattle.sea_device.specs.Past.{IsUnsyncedOf}
use Rattle.sea_device.proofs.tests.crashed.Given as goal

abbrev pub invariant-loop-at : goal.invariant-loop-at
invariant-loop-at g l = All (λ x. IsUnsyncedOf l.device.past l.moment x.0.0) (take l.at-index l.at-items)
