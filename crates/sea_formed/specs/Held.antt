-- Objects as they are read.
use Rattle.std.specs.Prelude.{◌≡◌, ℕ, ◌+◌, ◌≤◌, List, length, map as each}
use Rattle.std.specs.List.{All}
use Rattle.std.specs.FinMap as map
use Rattle.sea_base.specs.Space.{Store}
use Rattle.sea_node.specs.Entries.{Entry}
use Rattle.sea_object.specs.declared.onode.Onode.{Onode}
use Rattle.sea_object.specs.Objects.{ObjectValue, ObjectMap}
use Rattle.sea_data.specs.Bytes.{bytes_of}
use Rattle.sea_onode.specs.Onodes.{Onodes}
use Rattle.sea_onode.specs.Spelling.{Spells, onode_bytes}
use Rattle.sea_formed.specs.declared.object.Held.{Held}
use Rattle.sea_formed.specs.Trees.{IsTreeOf}

-- The numbers of an onode are within their limits, and its addresses below the next one.
pub record IsWithinLimits (next : ℕ) (onode : Onode) : Type 0 where
  pub low : 2 ≤ onode.base.0
  pub high : onode.base.0 + 4098 ≤ next
  pub size : onode.size ≤ 16777216
  pub attrs : onode.attrs ≤ 64
  pub keys : onode.keys ≤ 10000

-- An object was read from its two trees and its data blocks, and its onode counts the pairs of
-- both.
pub record IsHeld (store : Store) (held : Held) : Type 0 where
  pub attributes : IsTreeOf store held.onode.base.0 held.attributes.pairs.items
      held.attributes.nodes.items
  pub omap : IsTreeOf store (held.onode.base.0 + 1) held.omap.pairs.items
      held.omap.nodes.items
  pub attrs : held.onode.attrs ≡ length held.attributes.pairs.items
  pub keys : held.onode.keys ≡ length held.omap.pairs.items
  pub bytes : held.bytes.items ≡ bytes_of store held.onode.base.0 held.onode.size

-- the same of one of several, whose onode stands under its name and is within its limits
pub record IsListed (store : Store) (next : ℕ) (held : Held) : Type 0 where
  pub itself : IsHeld store held
  pub spelled : Spells (onode_bytes held.onode) held.onode
  pub limits : IsWithinLimits next held.onode

-- the pair of the onode tree from which an object was read
abbrev pub pair_of : Held → Entry
pair_of held = (held.name, onode_bytes held.onode)

-- Objects were read from these pairs of the onode tree, one from each.
pub record AreHeld (store : Store) (next : ℕ) (pairs : List Entry)
    (held : List Held) : Type 0 where
  pub pairs_are : each pair_of held ≡ pairs
  pub all : All (IsListed store next) held

abbrev pub object_of : Held → ObjectValue
object_of held = record {
  bytes = held.bytes.items;
  attributes = map.from_sorted held.attributes.pairs.items;
  omap = map.from_sorted held.omap.pairs.items;
}

-- the objects under their names
abbrev pub objects_of : List Held → ObjectMap
objects_of held = map.from_sorted (each (λ h. (h.name, object_of h)) held)

abbrev pub onodes_of : List Held → Onodes
onodes_of held = map.from_sorted (each (λ h. (h.name, h.onode)) held)
