use Rattle.std.proofs.Common.{◌≡◌, ◌*◌, ◌≤◌, take}
use Rattle.std.specs.Prelude.{sum_by}
use Rattle.sea_script.specs.Script.{read_weight}
use Rattle.sea_script.proofs.asked.reads_weight.Given as goal

abbrev pub invariant-loop-op : goal.invariant-loop-op
invariant-loop-op l = record {
  weight : l.weight ≡ sum_by read_weight (take l.op-index l.ops);
  light : l.weight ≤ 8796093022208 * l.op-index;
}
