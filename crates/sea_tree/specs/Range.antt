-- The pairs above a bound, as far as they are taken.
use Rattle.std.specs.Prelude.{◌≡◌, ℕ, suc, Bool, true, List, [], ◌∷◌, reverse, Option, Some, None}
use Rattle.std.specs.Ordering.{is_lt}
use Rattle.std.specs.FinMap as map
use Rattle.std.specs.FinMap.Entries.{where_key}
use Rattle.sea_base.specs.Space.{Seen}
use Rattle.sea_node.specs.Entries.{Entry, Values, key_order}
use Rattle.sea_tree.specs.declared.path.Step.{Step}
use Rattle.sea_tree.specs.declared.cursor.Turn.{Turn}
use Rattle.sea_tree.specs.declared.cursor.Cursor.{Cursor}
use Rattle.sea_tree.specs.Tree.{Bounds, IsWithin}
use Rattle.sea_tree.specs.Path.{ComesDown, LeafPath, IsLeafPath}

-- a key is above a bound, if there is one
abbrev pub is_above : Option (List ℕ) → List ℕ → Bool
is_above None key = true
is_above (Some bound) key = is_lt (key_order bound key)

-- a key is below a bound, if there is one
abbrev pub is_within : Option (List ℕ) → List ℕ → Bool
is_within None key = true
is_within (Some bound) key = is_lt (key_order key bound)

abbrev pub entries_above : Option (List ℕ) → List Entry → List Entry
entries_above after entries = where_key key_order (is_above after) entries

-- the pairs of a content above one bound and below another
abbrev pub pairs_upto : Option (List ℕ) → Option (List ℕ) → Values → List Entry
pairs_upto upper after content =
    where_key key_order (is_within upper) (entries_above after (map.entries content))

-- a range begins below a bound
abbrev pub BeginsBelow : Option (List ℕ) → Option (List ℕ) → Type 0
BeginsBelow None upper = Unit {0}
BeginsBelow (Some bound) upper = IsWithin bound upper

-- A path comes to the leaf after that of another: its key is the upper bound of the one, and the
-- lower bound of the other.
pub record IsNextPath (seen : Seen) (root : ℕ) (path next : LeafPath) : Type 0 where
  pub key : List ℕ
  pub upper : path.bounds.upper ≡ Some key
  pub lower : next.bounds.lower ≡ key
  pub known : IsLeafPath seen root key next

-- A node that is held is on the path to a key, above the leaves.
pub record IsTurn (seen : Seen) (root : ℕ) (key : List ℕ) (turn : Turn) : Type 0 where
  pub steps : List Step
  pub level : ℕ
  pub bounds : Bounds
  pub entries : List Entry
  pub down : ComesDown seen root key steps (suc level) turn.at.0 bounds entries
  pub stands : seen.view turn.at.0 ≡ Some turn.block
  pub upper_is : turn.upper ≡ bounds.upper

-- The nodes that are held, the lowest first, are those at which the path to an upper bound turns
-- off, and from each of them the path to its own upper bound.
abbrev pub AreTurns : Seen → ℕ → List Turn → Option (List ℕ) → Type 0
AreTurns seen root [] upper = upper ≡ None
AreTurns seen root (turn ∷ turns) upper =
    (key : List ℕ) × (upper ≡ Some key) × IsTurn seen root key turn
    × AreTurns seen root turns turn.upper

-- A cursor stands at the leaf of a path.
pub record StandsAt (seen : Seen) (root : ℕ) (path : LeafPath) (cursor : Cursor) : Type 0 where
  pub root_is : cursor.root.0 ≡ root
  pub entries_are : cursor.leaf.entries ≡ path.entries
  pub upper_is : cursor.upper ≡ path.bounds.upper
  pub turns : AreTurns seen root (reverse cursor.turns.items) cursor.upper

-- It stands at the leaf that a key leads to.
pub record IsAtLeaf (seen : Seen) (root : ℕ) (key : List ℕ) (cursor : Cursor) : Type 0 where
  pub path : LeafPath
  pub known : IsLeafPath seen root key path
  pub stands : StandsAt seen root path cursor

-- It stands at the leaf after that of a path.
pub record IsAtNext (seen : Seen) (root : ℕ) (path : LeafPath) (cursor : Cursor) : Type 0 where
  pub next : LeafPath
  pub is : IsNextPath seen root path next
  pub stands : StandsAt seen root next cursor
