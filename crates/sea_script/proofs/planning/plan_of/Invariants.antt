use Rattle.std.proofs.Common.{◌≡◌, ◌++◌, List, length}
use Rattle.std.specs.Vec.Iter.{into_iter_items}
use Rattle.sea_script.specs.declared.asked.Asked.{Asked}
use Rattle.sea_script.specs.Script.{greatest_client}
use Rattle.sea_script.proofs.Plans.{plan_up_to}
use Rattle.sea_script.proofs.planning.plan_of.Given as goal

abbrev pub invariant-loop-client : goal.invariant-loop-client
invariant-loop-client l = record {
  done : List Asked;
  read : l.fn.all.items ≡ done ++ into_iter_items l.left;
  plan : l.plan ≡ plan_up_to (greatest_client l.fn.all.items) done;
}

abbrev pub decreases-loop-client : goal.decreases-loop-client
decreases-loop-client l = length (into_iter_items l.left)
