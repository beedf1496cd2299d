-- Blocks under addresses as a store.
use Rattle.std.specs.Ordering.{nat_cmp}
use Rattle.std.specs.BTreeMap.{get}
use Rattle.sea_base.specs.Space.{Store}
use Rattle.sea_formed.specs.declared.blocks.Blocks.{Blocks}

-- what stands at each address
abbrev pub store_of : Blocks → Store
store_of blocks = λ at. get nat_cmp blocks.blocks at
