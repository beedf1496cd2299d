-- A well-formed store of objects, and the objects that it holds.
use Rattle.std.specs.Prelude.{◌≡◌, ◌≢◌, ◌⊎◌, ℕ, ◌+◌, ◌*◌, ◌<◌, List, Option, Some, None}
use Rattle.std.specs.FinMap as map
use Rattle.sea_base.specs.Space.{Store}
use Rattle.sea_data.specs.Bytes.{bytes_of}
use Rattle.sea_object.specs.declared.onode.Onode.{Onode}
use Rattle.sea_object.specs.Objects.{ObjectValue, ObjectMap}
use Rattle.sea_onode.specs.Onodes.{Onodes}
use Rattle.sea_onode.specs.Order.{IsInRange, AreInOrder}
use Rattle.sea_tree.specs.Tree.{IsNodeOf, AreApart}
use Rattle.sea_tree.specs.Content.{HasContent}

-- The object of an onode: its data blocks hold the bytes, up to its size; its attributes are the
-- tree at the first of its addresses, its omap is the tree at the second; and it counts the pairs of
-- both.
pub record IsObjectOf (store : Store) (onode : Onode) (object : ObjectValue) : Type 0 where
  pub bytes : object.bytes ≡ bytes_of store onode.base.0 onode.size
  pub attributes : HasContent store onode.base.0 object.attributes
  pub omap : HasContent store (onode.base.0 + 1) object.omap
  pub attrs : onode.attrs ≡ map.len object.attributes
  pub keys : onode.keys ≡ map.len object.omap

-- under one name stand an onode and its object, or neither
abbrev pub AreOfOne : Store → Option Onode → Option ObjectValue → Type 0
AreOfOne store None None = Unit {0}
AreOfOne store (Some onode) (Some object) = IsObjectOf store onode object
AreOfOne store _ _ = ⊥

-- the roots of an object's trees
abbrev pub IsOwnRoot : Onode → ℕ → Type 0
IsOwnRoot onode root = (root ≡ onode.base.0) ⊎ (root ≡ onode.base.0 + 1)

-- an onode of some name is such a one
abbrev pub HasOnodeWith : Onodes → (Onode → Type 0) → Type 0
HasOnodeWith onodes P =
    (name : List ℕ) × (onode : Onode) × (map.get onodes name ≡ Some onode) × P onode

-- the roots of all trees: that of the onodes, and two of each object
abbrev pub IsRoot : Onodes → ℕ → Type 0
IsRoot onodes root = (root ≡ 1) ⊎ HasOnodeWith onodes (λ onode. IsOwnRoot onode root)

-- an address is that of a data block that holds bytes of an object
abbrev pub IsDataOf : Onode → ℕ → Type 0
IsDataOf onode at = (i : ℕ) × (4096 * i < onode.size) × (at ≡ onode.base.0 + 2 + i)

-- How the blocks of a store are shared out among the objects of these onodes.
pub record AreSharedOut (store : Store) (onodes : Onodes) : Type 0 where
  -- no two trees have a node in common
  pub apart : (a b : ℕ) → IsRoot onodes a → IsRoot onodes b → a ≢ b → AreApart store a b
  -- among the addresses of an object the only nodes are the roots of its own two trees
  pub alone : (root at : ℕ) → IsRoot onodes root → IsNodeOf store root at
      → HasOnodeWith onodes (λ onode. IsInRange onode at) → at ≡ root
  -- what is filled is a node of a tree, or holds bytes of an object
  pub filled : (at : ℕ) → store at ≢ None
      → ((root : ℕ) × IsRoot onodes root × IsNodeOf store root at)
      ⊎ HasOnodeWith onodes (λ onode. IsDataOf onode at)

-- A store is well formed, and holds these objects. Its onode tree has an onode for each of them,
-- and no other. Each has 4,098 addresses of its own, from 2 to below the next address, and its
-- numbers are within their limits. No node belongs to two trees, and every filled address has its
-- use.
pub record IsWellFormed (store : Store) (next : ℕ) (objects : ObjectMap) : Type 0 where
  pub onodes : Onodes
  pub order : AreInOrder store next onodes
  pub each : (name : List ℕ) → AreOfOne store (map.get onodes name) (map.get objects name)
  pub shared : AreSharedOut store onodes
