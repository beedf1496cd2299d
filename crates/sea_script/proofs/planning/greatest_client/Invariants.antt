use Rattle.std.proofs.Common.{◌≡◌, take}
use Rattle.sea_script.specs.Script.{greatest_client}
use Rattle.sea_script.proofs.planning.greatest_client.Given as goal

abbrev pub invariant-loop-asked : goal.invariant-loop-asked
invariant-loop-asked l = l.greatest ≡ greatest_client (take l.asked-index l.all)
