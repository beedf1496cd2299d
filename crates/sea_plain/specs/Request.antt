-- What may be a request.
use Rattle.std.specs.Prelude.{◌≤◌, List, length, sum_by}
use Rattle.std.specs.List.{AllByRecursion}
use Rattle.sea_plain.specs.declared.op.Op.{Op}
use Rattle.sea_plain.specs.Op.{IsWithinLimits, data_blocks, key_weight}

-- 1 to 16 operations, each within its limits, that write 64 blocks at most and whose changes of keys
-- weigh 32 at most
pub record IsRequest (ops : List Op) : Type 0 where
  pub some : 1 ≤ length ops
  pub few : length ops ≤ 16
  pub each : AllByRecursion IsWithinLimits ops
  pub blocks : sum_by data_blocks ops ≤ 64
  pub keys : sum_by key_weight ops ≤ 32
