use Rattle.std.proofs.Common.{◌≡◌, ◌*◌, ◌^◌, ◌≤◌, take}
use Rattle.std.specs.Prelude.{sum_by}
use Rattle.std.specs.List.{AllByRecursion}
use Rattle.sea_plain.specs.Op.{IsWithinLimits, data_blocks, key_weight}
use Rattle.sea_plain.proofs.request.check.Given as goal

abbrev pub invariant-loop-index : goal.invariant-loop-index
invariant-loop-index l = record {
  each : AllByRecursion IsWithinLimits (take l.index l.ops);
  blocks : l.blocks ≡ sum_by data_blocks (take l.index l.ops);
  keys : l.keys ≡ sum_by key_weight (take l.index l.ops);
  few_blocks : l.blocks ≤ l.index * 2 ^ 53;
  few_keys : l.keys ≤ l.index * 2 ^ 53;
}
