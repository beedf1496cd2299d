-- A lookup on its way down from a root.
use Rattle.std.specs.Prelude.{◌≡◌, ℕ, List, Option, Some}
use Rattle.std.specs.FinMap.Entries.{find}
use Rattle.sea_base.specs.Space.{Seen}
use Rattle.sea_node.specs.declared.lookup.Lookup.{Lookup}
use Rattle.sea_node.specs.Entries.{Entry, key_order}
use Rattle.sea_node.specs.Lookup.{Tells}
use Rattle.sea_tree.specs.declared.leaf.Leaf.{Leaf}
use Rattle.sea_tree.specs.declared.lookup.Sight.{Sight}
use Rattle.sea_tree.specs.declared.path.Step.{Step}
use Rattle.sea_tree.specs.Tree.{Bounds}
use Rattle.sea_tree.specs.Path.{ComesDown}

-- What is in hand tells of the node that a key leads to, on a path down from a root, and of its
-- upper bound.
pub record LooksDown (seen : Seen) (root : ℕ) (key : List ℕ) (upper : Option (List ℕ))
    (lookup : Lookup) : Type 0 where
  pub steps : List Step
  pub at : ℕ
  pub bounds : Bounds
  pub entries : List Entry
  pub down : ComesDown seen root key steps lookup.level at bounds entries
  pub upper_is : upper ≡ bounds.upper
  pub tells : Tells key entries lookup

-- A node in hand is the one that stands at an address.
pub record IsSeen (seen : Seen) (at : ℕ) (sight : Sight) : Type 0 where
  pub here : sight.at.0 ≡ at
  pub stands : seen.view at ≡ Some sight.block

-- It is the one that a key leads to, on a path down from a root.
pub record IsFound (seen : Seen) (root : ℕ) (key : List ℕ) (upper : Option (List ℕ))
    (sight : Sight) : Type 0 where
  pub looks : LooksDown seen root key upper sight.lookup
  pub is : IsSeen seen looks.at sight

-- A leaf in hand is the one that the key leads to: its address, its block, and the value that it
-- has under the key.
pub record HoldsLeaf (seen : Seen) (root : ℕ) (key : List ℕ) (leaf : Leaf) : Type 0 where
  pub steps : List Step
  pub bounds : Bounds
  pub entries : List Entry
  pub down : ComesDown seen root key steps 0 leaf.at.0 bounds entries
  pub stands : seen.view leaf.at.0 ≡ Some leaf.block
  pub value : leaf.value ≡ find key_order key entries
