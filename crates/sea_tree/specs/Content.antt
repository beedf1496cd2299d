-- What a tree holds: the pairs that its paths lead to.
use Rattle.std.specs.Prelude.{◌≡◌, ◌↔◌, ℕ, zero, suc, List, ◌∷◌, ◌++◌, Some, None}
use Rattle.std.specs.List.{Contains}
use Rattle.std.specs.FinMap as map
use Rattle.sea_base.specs.Space.{Store}
use Rattle.sea_node.specs.Entries.{Entry, Values, IsNotAbove}
use Rattle.sea_tree.specs.Tree.{NodeAt, IsWithin, IsAddress, next_key, IsTree}

-- the child on the path to a key: that of the last entry whose key is not above it
pub record Guides (entries : List Entry) (key : List ℕ) (child : ℕ) : Type 0 where
  pub before : List Entry
  pub entry : Entry
  pub after : List Entry
  pub split : entries ≡ before ++ entry ∷ after
  pub not_above : IsNotAbove entry.0 key
  pub last : IsWithin key (next_key after None)
  pub address : IsAddress entry.1 child

-- A path of nodes leads from this address down to a leaf that has the pair, each step by the last
-- separator that is not above the key.
abbrev pub Leads : Store → ℕ → ℕ → List ℕ → List ℕ → Type 0
Leads store zero at key value =
    (entries : List Entry) × NodeAt store at 0 entries × Contains entries (key, value)
Leads store (suc level) at key value =
    (entries : List Entry) × NodeAt store at (suc level) entries
    × ((child : ℕ) × Guides entries key child × Leads store level child key value)

-- a path leads from the root to the pair
abbrev pub LeadsTo : Store → ℕ → List ℕ → List ℕ → Type 0
LeadsTo store root key value = (level : ℕ) × Leads store level root key value

-- The tree is well formed, and its pairs are those of a finite map.
pub record HasContent (store : Store) (root : ℕ) (content : Values) : Type 0 where
  pub tree : IsTree store root
  pub pairs : (key value : List ℕ)
      → LeadsTo store root key value ↔ (map.get content key ≡ Some value)
