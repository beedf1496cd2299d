-- The onodes of a store, under the names of their objects.
use Rattle.std.specs.Prelude.{ℕ, List, filter, take, Option}
use Rattle.std.specs.FinMap as map
use Rattle.sea_base.specs.Space.{Store}
use Rattle.sea_node.specs.Entries.{Values, key_order}
use Rattle.sea_object.specs.declared.onode.Onode.{Onode}
use Rattle.sea_object.specs.Objects.{is_after}
use Rattle.sea_tree.specs.Content.{HasContent}
use Rattle.sea_onode.specs.Spelling.{IsValueOf}

-- onodes under names, as a finite map
abbrev pub Onodes : Type 0
Onodes = map.FinMap key_order Onode

-- the same names have values in a tree, and each spells the onode of its name
abbrev pub AreSpelled : Values → Onodes → Type 0
AreSpelled content onodes =
    (name : List ℕ) → IsValueOf (map.get content name) (map.get onodes name)

-- The onode tree, whose root is address 1, is well formed, and these are the onodes that it holds.
pub record HasOnodes (store : Store) (onodes : Onodes) : Type 0 where
  pub content : Values
  pub tree : HasContent store 1 content
  pub spelled : AreSpelled content onodes

-- the first names in order, of those behind one
abbrev pub first_names : ℕ → Option (List ℕ) → Onodes → List (List ℕ)
first_names limit after onodes = take limit (filter (is_after after) (map.keys onodes))
