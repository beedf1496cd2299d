-- The two trees of an object: where each stands, what it holds, and where its pairs are counted.
use Rattle.std.proofs.Common.{◌≡◌, inl, inr, ℕ, ◌+◌, ◌≤◌, refl, arith}
use Rattle.std.specs.FinMap as map
use Rattle.sea_base.specs.Space.{Store}
use Rattle.sea_node.specs.Entries.{Values}
use Rattle.sea_object.specs.declared.onode.Onode.{Onode}
use Rattle.sea_object.specs.Objects.{ObjectValue}
use Rattle.sea_onode.specs.Order.{IsInOrder}
use Rattle.sea_tree.specs.Content.{HasContent}
use Rattle.sea_ops.specs.WellFormed.{IsObjectOf, IsOwnRoot}

pub data Part : Type 0 where
  Attributes : Part
  Omap : Part

abbrev pub root_of : Part → Onode → ℕ
root_of Attributes x = x.base.0
root_of Omap x = x.base.0 + 1

-- how many pairs the onode counts
abbrev pub count_of : Part → Onode → ℕ
count_of Attributes x = x.attrs
count_of Omap x = x.keys

-- and how many of the other tree
abbrev pub other_count : Part → Onode → ℕ
other_count Attributes x = x.keys
other_count Omap x = x.attrs

abbrev pub limit_of : Part → ℕ
limit_of Attributes = 64
limit_of Omap = 10000

abbrev pub values_of : Part → ObjectValue → Values
values_of Attributes o = o.attributes
values_of Omap o = o.omap

abbrev pub with_values : Part → Values → ObjectValue → ObjectValue
with_values Attributes values o = record o { attributes = values }
with_values Omap values o = record o { omap = values }

pub own_root : (part : Part) (x : Onode) → IsOwnRoot x (root_of part x)
own_root Attributes x = inl refl
own_root Omap x = inr refl

pub part_has : (part : Part) (store : Store) (x : Onode) (o : ObjectValue) → IsObjectOf store x o → HasContent store (root_of part x) (values_of part o)
part_has Attributes store x o is = is.attributes
part_has Omap store x o is = is.omap

pub few_counted : (part : Part) (store : Store) (next : ℕ) (x : Onode) → IsInOrder store next x → count_of part x ≤ limit_of part
few_counted Attributes store next x order = order.attrs
few_counted Omap store next x order = order.keys

-- the counts of an onode are within their limits where one of them is, and the other stayed
pub counts_fit : (part : Part) (store : Store) (next : ℕ) (x y : Onode) → IsInOrder store next x → other_count part y ≡ other_count part x → count_of part y ≤ limit_of part → (y.attrs ≤ 64) × (y.keys ≤ 10000)
counts_fit Attributes store next x y order same few = (few, omega (arith, same, order.keys))
counts_fit Omap store next x y order same few = (omega (arith, same, order.attrs), few)

pub counted_by : (part : Part) (store : Store) (x : Onode) (o : ObjectValue) → IsObjectOf store x o → count_of part x ≡ map.len (values_of part o)
counted_by Attributes store x o is = is.attrs
counted_by Omap store x o is = is.keys

pub root_within : (part : Part) (x : Onode) → (x.base.0 ≤ root_of part x) × (root_of part x ≤ x.base.0 + 1)
root_within Attributes x = (omega arith, omega arith)
root_within Omap x = (omega arith, omega arith)
