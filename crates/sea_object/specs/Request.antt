-- What may be a request.
use Rattle.std.specs.Prelude.{◌≤◌, List, length, sum_by, Bool, ◌&&◌, not}
use Rattle.std.specs.List.{AllByRecursion, list_any}
use Rattle.sea_object.specs.declared.op.Op.{Op}
use Rattle.sea_object.specs.Op.{IsWithinLimits, data_blocks, key_weight, adds, takes}

-- 1 to 16 operations, each within its limits, that write 64 blocks at most and whose changes of
-- keys weigh 32 at most
pub record IsRequest (ops : List Op) : Type 0 where
  pub some : 1 ≤ length ops
  pub few : length ops ≤ 16
  pub each : AllByRecursion IsWithinLimits ops
  pub blocks : sum_by data_blocks ops ≤ 64
  pub keys : sum_by key_weight ops ≤ 32

-- whether some operation takes something away, and each that changes anything does so
abbrev pub frees : List Op → Bool
frees ops = list_any takes ops && not (list_any adds ops)
