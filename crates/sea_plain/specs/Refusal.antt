-- Why operations make no request: the first of the reasons, in this order.
use Rattle.std.specs.Prelude.{◌≡◌, ℕ, ◌-◌, ◌<◌, ◌≤◌, List, [], length, take, slice_get, sum_by, Some}
use Rattle.std.specs.List.{AllByRecursion}
use Rattle.sea_plain.specs.declared.op.Op.{Op}
use Rattle.sea_plain.specs.declared.request.RequestFault.{RequestFault}
use Rattle.sea_plain.specs.declared.request.RequestFault.TheVariants.{Empty, TooManyOps, BadRange, TooManyBlocks, TooManyKeys}
use Rattle.sea_plain.specs.Op.{IsWithinLimits, data_blocks, key_weight}

-- the operation of this number, counted from 1, is the first beyond its limits
pub record IsFirstBeyond (ops : List Op) (number : ℕ) : Type 0 where
  pub counted : 1 ≤ number
  pub before : AllByRecursion IsWithinLimits (take (number - 1) ops)
  pub beyond : (op : Op) × (slice_get ops (number - 1) ≡ Some op) × (IsWithinLimits op → ⊥)

abbrev pub Refuses : List Op → RequestFault → Type 0
Refuses ops Empty = ops ≡ []
Refuses ops TooManyOps = 16 < length ops
Refuses ops (BadRange number) = (length ops ≤ 16) × IsFirstBeyond ops number
Refuses ops TooManyBlocks =
    (length ops ≤ 16) × AllByRecursion IsWithinLimits ops × (64 < sum_by data_blocks ops)
Refuses ops TooManyKeys =
    (length ops ≤ 16) × AllByRecursion IsWithinLimits ops × (sum_by data_blocks ops ≤ 64) × (32 < sum_by key_weight ops)
