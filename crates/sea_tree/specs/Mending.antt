-- How a tree is mended from a changed leaf up to its root.
use Rattle.std.specs.Prelude.{◌≡◌, ◌⊎◌, ℕ, ◌+◌, ◌<◌, ◌≤◌, List, map, length, Option, None, if◌then◌else◌}
use Rattle.std.specs.List.{All, Contains}
use Rattle.std.specs.Ordering.{eq_by_cmp}
use Rattle.sea_base.specs.Name.{IsName}
use Rattle.sea_base.specs.Space.{Store}
use Rattle.sea_node.specs.Entries.{Entry, key_order, IsNotAbove, IsRising, size, edited}
use Rattle.sea_tree.specs.declared.edit.Edit.{Edit}
use Rattle.sea_tree.specs.declared.edit.Edit.TheVariants.{Pair, Moved}
use Rattle.sea_tree.specs.Tree.{Bounds, IsWithin, first_key}
use Rattle.sea_tree.specs.Breaks.{HasNode}
use Rattle.sea_tree.specs.Subtrees.{Holds, Below}
use Rattle.sea_node.specs.declared.node.TheConstants.{ROOM_BYTES}
use Rattle.sea_node.specs.declared.reading.TheConstants.{ENTRY_BYTES, VALUE_BYTES}
use Rattle.sea_tree.specs.declared.place.TheConstants.{LEAST_BYTES}

-- the entries with another key in the place of one
abbrev pub moved : List ℕ → List ℕ → List Entry → List Entry
moved from to entries = map (λ e. if eq_by_cmp key_order from e.0 then (to, e.1) else e) entries

-- the entries of a node after an edit
abbrev pub after_edit : Edit → List Entry → List Entry
after_edit (Pair key value) entries = edited key value entries
after_edit (Moved from to) entries = moved from to entries

-- Entries that would be a node in its place but for their number and their size, which one more
-- entry may have made too great.
pub record IsNearPlace (level : ℕ) (bounds : Bounds) (entries : List Entry) : Type 0 where
  pub level_fits : level ≤ 7
  pub children : 1 ≤ level → All (λ e. length e.1 ≡ 8) entries
  pub keys : All (λ e. IsName e.0) entries
  pub values : All (λ e. length e.1 ≤ VALUE_BYTES) entries
  pub rising : IsRising entries
  pub lower : All (λ e. IsNotAbove bounds.lower e.0) entries
  pub upper : All (λ e. IsWithin e.0 bounds.upper) entries
  pub first : 1 ≤ level → (1 ≤ length entries) × (first_key entries ≡ bounds.lower)
  pub near : size entries ≤ ROOM_BYTES + ENTRY_BYTES

-- What the call changes: the key, with the value that comes or none.
pub record Aim : Type 0 where
  pub key : List ℕ
  pub value : Option (List ℕ)
  -- the addresses that the call allocated so far are from this one on, up to the other
  pub first : ℕ
  pub last : ℕ

abbrev pub IsGiven : Aim → ℕ → Type 0
IsGiven aim q = (aim.first ≤ q) × (q < aim.last)

-- Below a node the change is made, and the node isn't written yet: in the store as it was, the node
-- had the entries `before`; in the store as it is now, `after` are the entries that it is to have.
pub record Mending (was is : Store) (level at : ℕ) (bounds : Bounds) (before after : List Entry)
    (aim : Aim) : Type 0 where
  pub old_pairs : List Entry
  pub new_pairs : List Entry
  pub old_nodes : List ℕ
  pub new_nodes : List ℕ
  pub node : HasNode was level at bounds before
  pub below_was : Below was level before bounds.upper old_pairs old_nodes
  pub below_is : Below is level after bounds.upper new_pairs new_nodes
  pub near : IsNearPlace level bounds after
  pub pairs : new_pairs ≡ edited aim.key aim.value old_pairs
  pub key_lower : IsNotAbove bounds.lower aim.key
  pub key_upper : IsWithin aim.key bounds.upper
  pub elsewhere : (q : ℕ) → (Contains old_nodes q → ⊥) → (IsGiven aim q → ⊥) → is q ≡ was q
  pub nodes : (q : ℕ) → Contains new_nodes q → Contains old_nodes q ⊎ IsGiven aim q
  pub stays : (q : ℕ) → Contains old_nodes q → Contains new_nodes q ⊎ (is q ≡ None)
  pub uses : (q : ℕ) → IsGiven aim q → Contains new_nodes q

-- The change is made in the subtree from an address down, which may have another level now where it
-- is a root.
pub record Replaced (was is : Store) (level new_level at : ℕ) (bounds : Bounds)
    (aim : Aim) : Type 0 where
  pub old_pairs : List Entry
  pub new_pairs : List Entry
  pub old_nodes : List ℕ
  pub new_nodes : List ℕ
  pub holds_was : Holds was level at bounds old_pairs old_nodes
  pub holds_is : Holds is new_level at bounds new_pairs new_nodes
  pub pairs : new_pairs ≡ edited aim.key aim.value old_pairs
  pub key_lower : IsNotAbove bounds.lower aim.key
  pub key_upper : IsWithin aim.key bounds.upper
  pub elsewhere : (q : ℕ) → (Contains old_nodes q → ⊥) → (IsGiven aim q → ⊥) → is q ≡ was q
  pub nodes : (q : ℕ) → Contains new_nodes q → Contains old_nodes q ⊎ IsGiven aim q
  pub stays : (q : ℕ) → Contains old_nodes q → Contains new_nodes q ⊎ (is q ≡ None)
  pub uses : (q : ℕ) → IsGiven aim q → Contains new_nodes q

-- a part that a split, a merge or a cut makes: filled, and not too full
abbrev pub IsPart : List Entry → Type 0
IsPart entries = (LEAST_BYTES ≤ size entries) × (size entries ≤ ROOM_BYTES)
