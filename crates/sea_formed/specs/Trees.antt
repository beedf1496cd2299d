-- Trees as they are read.
use Rattle.std.specs.Prelude.{◌≢◌, ◌↔◌, ℕ, List}
use Rattle.std.specs.List.{AllPairs, Contains}
use Rattle.std.specs.FinMap as map
use Rattle.sea_base.specs.Space.{Store}
use Rattle.sea_node.specs.Entries.{Entry, IsRising}
use Rattle.sea_tree.specs.Tree.{IsNodeOf}
use Rattle.sea_tree.specs.Content.{HasContent}

-- A tree is well formed, its pairs in order are these, and these are its nodes, each once.
pub record IsTreeOf (store : Store) (root : ℕ) (pairs : List Entry)
    (walked : List ℕ) : Type 0 where
  pub content : HasContent store root (map.from_sorted pairs)
  pub rising : IsRising pairs
  pub once : AllPairs ◌≢◌ walked
  pub nodes : (at : ℕ) → Contains walked at ↔ IsNodeOf store root at
