-- The path from a root to a leaf, by the last separators that are not above a key.
use Rattle.std.specs.Prelude.{◌≡◌, ℕ, zero, suc, List, [], ◌∷◌}
use Rattle.sea_base.specs.Space.{Store, Seen, IsKnown}
use Rattle.sea_node.specs.Entries.{Entry}
use Rattle.sea_tree.specs.declared.path.Step.{Step}
use Rattle.sea_tree.specs.declared.path.Path.{Path}
use Rattle.sea_tree.specs.Tree.{Bounds, root_bounds, LiesWithin, IsAddress, child_bounds}
use Rattle.sea_tree.specs.Breaks.{HasNode}
use Rattle.sea_tree.specs.Place.{meant, Splits}

-- One step down: a node in its place, and the child of the entry that leads to the key, with its
-- bounds.
pub record StepsDown (store : Store) (level at : ℕ) (bounds : Bounds) (step : Step) (key : List ℕ)
    (child : ℕ) (below : Bounds) : Type 0 where
  pub here : step.at.0 ≡ at
  pub level_is : step.node.level ≡ suc level
  pub upper_is : step.upper ≡ bounds.upper
  pub node : HasNode store (suc level) at bounds step.node.entries
  pub before : List Entry
  pub entry : Entry
  pub after : List Entry
  pub split : Splits step.node.entries step.index before entry after
  pub address : IsAddress entry.1 child
  pub below_is : below ≡ child_bounds entry after bounds.upper
  pub leads : LiesWithin key below

-- Steps lead from the node of a level at an address with its bounds down to another.
abbrev pub Descends : Store → ℕ → ℕ → Bounds → List Step → List ℕ → ℕ → ℕ → Bounds → Type 0
Descends store level at bounds [] key last_level last last_bounds =
    (level ≡ last_level) × (at ≡ last) × (bounds ≡ last_bounds)
Descends store zero at bounds (step ∷ steps) key last_level last last_bounds = ⊥
Descends store (suc level) at bounds (step ∷ steps) key last_level last last_bounds =
    (child : ℕ) × (below : Bounds) × StepsDown store level at bounds step key child below
    × Descends store level child below steps key last_level last last_bounds

-- the same to a leaf in its place
abbrev pub IsPath : Store → ℕ → ℕ → Bounds → List Step → List ℕ → ℕ → List Entry → Bounds → Type 0
IsPath store level at bounds steps key leaf entries leaf_bounds =
    Descends store level at bounds steps key 0 leaf leaf_bounds
    × HasNode store 0 leaf leaf_bounds entries × LiesWithin key leaf_bounds

-- the addresses of steps are known
abbrev pub AreKnown : Seen → List Step → Type 0
AreKnown seen [] = Unit {0}
AreKnown seen (step ∷ steps) = IsKnown seen step.at.0 × AreKnown seen steps

-- What is known of steps that have come down from a root to a node, which the key leads to.
pub record ComesDown (seen : Seen) (root : ℕ) (key : List ℕ) (steps : List Step) (level at : ℕ)
    (bounds : Bounds) (entries : List Entry) : Type 0 where
  pub top : ℕ
  pub descent : Descends seen.view top root root_bounds steps key level at bounds
  pub node : HasNode seen.view level at bounds entries
  pub steps_known : AreKnown seen steps
  pub known : IsKnown seen at
  pub leads : LiesWithin key bounds

-- A whole path to a leaf, and what is known of it.
pub record LeafPath : Type 0 where
  pub steps : List Step
  pub at : ℕ
  pub bounds : Bounds
  pub entries : List Entry

abbrev pub IsLeafPath : Seen → ℕ → List ℕ → LeafPath → Type 0
IsLeafPath seen root key path =
    ComesDown seen root key path.steps 0 path.at path.bounds path.entries

-- The same of a path whose nodes are in hand.
pub record IsKnownPath (seen : Seen) (root : ℕ) (key : List ℕ) (path : Path) : Type 0 where
  pub leaf_level : path.leaf.level ≡ 0
  pub down : ComesDown seen root key path.steps.items 0 path.at.0
      (meant path.bounds) path.leaf.entries
