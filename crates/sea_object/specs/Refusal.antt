-- Why operations make no request: the first of the reasons, in this order.
use Rattle.std.specs.Prelude.{◌≡◌, ℕ, ◌-◌, ◌<◌, ◌≤◌, Some}
use Rattle.std.specs.Prelude.{List, [], length, take, slice_get, sum_by}
use Rattle.std.specs.List.{AllByRecursion}
use Rattle.sea_object.specs.declared.op.Op.{Op}
use Rattle.sea_object.specs.declared.request.RequestFault.{RequestFault}
use Rattle.sea_object.specs.declared.request.RequestFault.TheVariants.{Empty, TooManyOps, BadRange}
use Rattle.sea_object.specs.declared.request.RequestFault.TheVariants.{BadValue}
use Rattle.sea_object.specs.declared.request.RequestFault.TheVariants.{TooManyBlocks, TooManyKeys}
use Rattle.sea_object.specs.Op.{HasGoodRange, HasGoodValues, IsWithinLimits}
use Rattle.sea_object.specs.Op.{data_blocks, key_weight}

-- The operation of this number, counted from 1, has this fault, and those before it have none.
pub record IsFirstBeyond (Faulty : Op → Type 0) (ops : List Op) (number : ℕ) : Type 0 where
  pub counted : 1 ≤ number
  pub before : AllByRecursion IsWithinLimits (take (number - 1) ops)
  pub beyond : (op : Op) × (slice_get ops (number - 1) ≡ Some op) × Faulty op

abbrev pub IsBeyondRange : Op → Type 0
IsBeyondRange op = HasGoodRange op → ⊥

-- its numbers are good, and one of its values is too long
abbrev pub IsBeyondValues : Op → Type 0
IsBeyondValues op = HasGoodRange op × (HasGoodValues op → ⊥)

abbrev pub Refuses : List Op → RequestFault → Type 0
Refuses ops Empty = ops ≡ []
Refuses ops TooManyOps = 16 < length ops
Refuses ops (BadRange number) = (length ops ≤ 16) × IsFirstBeyond IsBeyondRange ops number
Refuses ops (BadValue number) = (length ops ≤ 16) × IsFirstBeyond IsBeyondValues ops number
Refuses ops TooManyBlocks =
    (length ops ≤ 16) × AllByRecursion IsWithinLimits ops × (64 < sum_by data_blocks ops)
Refuses ops TooManyKeys =
    (length ops ≤ 16)
    × AllByRecursion IsWithinLimits ops
    × (sum_by data_blocks ops ≤ 64)
    × (32 < sum_by key_weight ops)
