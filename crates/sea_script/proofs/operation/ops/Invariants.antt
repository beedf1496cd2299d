use Rattle.std.proofs.Common.{◌≡◌, ◌++◌, ℕ, List, length}
use Rattle.sea_script.specs.Operation.{Spells}
use Rattle.sea_script.specs.Reading.{seen}
use Rattle.sea_script.specs.ReadingLines.{op_parts_left}
use Rattle.sea_script.specs.Script.{OneByOne, parts}
use Rattle.sea_script.proofs.operation.ops.Given as goal

abbrev pub invariant-loop-left : goal.invariant-loop-left
invariant-loop-left l = record {
  done : List (List (List ℕ));
  each : OneByOne Spells done l.ops.items;
  read : parts (seen l.fn.words) ≡ done ++ op_parts_left l.left;
}

abbrev pub decreases-loop-left : goal.decreases-loop-left
decreases-loop-left l = length (op_parts_left l.left)
