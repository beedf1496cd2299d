use Rattle.std.proofs.Common.{◌≡◌, ◌++◌, length}
use Rattle.std.specs.List.{AllByRecursion, flat_map}
use Rattle.sea_plain_script.specs.ScriptReading.{IsSpelled, left}
use Rattle.sea_plain_script.proofs.Requests.{with_mark}
use Rattle.sea_plain_script.proofs.script.request.ops.Given as goal

abbrev pub invariant-loop-ops : goal.invariant-loop-ops
invariant-loop-ops l = record {
  spelled : AllByRecursion IsSpelled l.ops;
  read : left l.fn.words ≡ flat_map with_mark l.ops ++ left l.words;
}

abbrev pub decreases-loop-ops : goal.decreases-loop-ops
decreases-loop-ops l = length (left l.words)
