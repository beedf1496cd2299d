use Rattle.std.proofs.Common.{◌≡◌, ◌++◌, length, take}
use Rattle.std.specs.List.{flat_map}
use Rattle.sea_base.specs.Field.{big_endian}
use Rattle.sea_record.proofs.list.push_list.Given as goal

abbrev pub invariant-loop-item : goal.invariant-loop-item
invariant-loop-item g l =
    l.bytes.items ≡ l.fn.bytes.items ++ (big_endian 4 (length l.items) ++ flat_map g.T.Entry.spelled (take l.item-index l.items))
