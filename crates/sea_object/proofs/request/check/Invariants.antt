use Rattle.std.proofs.Common.{◌≡◌, ◌*◌, ◌-◌, ◌^◌, ◌≤◌, take}
use Rattle.std.specs.Prelude.{sum_by, min}
use Rattle.std.specs.List.{AllByRecursion}
use Rattle.sea_object.specs.Op.{IsWithinLimits, data_blocks, key_weight}
use Rattle.sea_object.proofs.request.check.Given as goal

abbrev pub invariant-loop-index : goal.invariant-loop-index
invariant-loop-index l = record {
  each : AllByRecursion IsWithinLimits (take l.index l.ops);
  blocks : l.blocks ≡ sum_by data_blocks (take l.index l.ops);
  few_blocks : l.blocks ≤ l.index * 2 ^ 53;
  keys : l.keys ≡ min (2 ^ 64 - 1) (sum_by key_weight (take l.index l.ops));
}
