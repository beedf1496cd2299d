-- What rebalancing one node below the root plans, and what it leaves to its parent.
use Rattle.std.specs.Prelude.{◌≡◌, ◌⊎◌, ℕ, ◌+◌, ◌<◌, ◌≤◌, List, [], ◌∷◌, ◌++◌, length, Option, Some, None}
use Rattle.sea_base.specs.Field.{big_endian}
use Rattle.sea_base.specs.Space.{Store, Seen, OnlyRead, Agrees, laid}
use Rattle.sea_node.specs.Entries.{Entry, size}
use Rattle.sea_node.specs.Node.{IsNode, node_bytes}
use Rattle.sea_tree.specs.declared.edit.Edit.{Edit}
use Rattle.sea_tree.specs.declared.edit.Edit.TheVariants.{Pair, Moved}
use Rattle.sea_node.specs.declared.node.Node.{Node}
use Rattle.sea_tree.specs.declared.neighbours.Neighbours.{Neighbours as HeldNeighbours}
use Rattle.sea_tree.specs.declared.path.Step.{Step}
use Rattle.sea_tree.specs.Tree.{Bounds, IsAddress, child_bounds, first_key}
use Rattle.sea_tree.specs.declared.fault.TreeFault.{TreeFault}
use Rattle.sea_tree.specs.Faults.{Blames}
use Rattle.sea_tree.specs.Breaks.{HasNode, IsBroken, Child}
use Rattle.sea_tree.specs.Cut.{IsCut}
use Rattle.sea_tree.specs.Does.{Change}
use Rattle.sea_tree.specs.Place.{Splits}
use Rattle.sea_tree.specs.Reads.{ReadsNothing, ReadsOnly}
use Rattle.sea_tree.specs.Mending.{IsPart, IsNearPlace}
use Rattle.sea_node.specs.declared.node.TheConstants.{ROOM_BYTES}
use Rattle.sea_tree.specs.declared.place.TheConstants.{LEAST_BYTES}

-- It has a good size.
pub record Fits (level at : ℕ) (entries : List Entry) (old new : Seen) (changes : List Change)
    (left : Option Edit) : Type 0 where
  pub filled : LEAST_BYTES ≤ size entries
  pub room : size entries ≤ ROOM_BYTES
  pub planned : changes ≡ (at, Some (node_bytes level entries)) ∷ []
  pub next : new.next ≡ old.next
  pub nothing : left ≡ None
  pub unread : ReadsNothing old new

-- It has too many entries, and the right part goes to a fresh address, of which the parent hears.
pub record SplitsInTwo (level at : ℕ) (entries : List Entry) (old new : Seen)
    (changes : List Change) (left : Option Edit) : Type 0 where
  pub large : ROOM_BYTES < size entries
  pub front : List Entry
  pub back : List Entry
  pub cut : entries ≡ front ++ back
  pub is_cut : IsCut entries (length front)
  pub front_part : IsPart front
  pub back_part : IsPart back
  pub planned : changes
      ≡ (old.next, Some (node_bytes level back)) ∷ (at, Some (node_bytes level front)) ∷ []
  pub next : new.next ≡ old.next + 1
  pub parent : left ≡ Some (Pair (first_key back) (Some (big_endian 8 old.next)))
  pub unread : ReadsNothing old new

-- A step's entry leads to an address, and these entries are near their place there.
abbrev pub IsNearChild : Step → ℕ → ℕ → List Entry → Type 0
IsNearChild parent level at entries =
    (before after : List Entry) (entry : Entry)
    → Splits parent.node.entries parent.index before entry after
    → IsAddress entry.1 at × IsNearPlace level (child_bounds entry after parent.upper) entries

-- The child of a step's entry at an index is a node in its place.
abbrev pub HasChild : Store → Step → ℕ → ℕ → ℕ → List Entry → Type 0
HasChild store parent index level at entries =
    (before after : List Entry) (entry : Entry)
    → Splits parent.node.entries index before entry after
    → IsAddress entry.1 at × HasNode store level at (child_bounds entry after parent.upper) entries

-- It goes together with a neighbour: two adjacent entries of the parent, of which one leads to it
-- and the other to a node that was read, and no other. The right neighbour is taken, and the left
-- one by the last child alone.
pub record Neighbours (level at : ℕ) (entries : List Entry) (parent : Step)
    (old new : Seen) : Type 0 where
  pub before : List Entry
  pub one : Entry
  pub two : Entry
  pub after : List Entry
  pub one_at : ℕ
  pub two_at : ℕ
  pub one_entries : List Entry
  pub two_entries : List Entry
  pub split : parent.node.entries ≡ before ++ one ∷ two ∷ after
  pub one_address : IsAddress one.1 one_at
  pub two_address : IsAddress two.1 two_at
  pub sides : ((parent.index ≡ length before) × (at ≡ one_at) × (entries ≡ one_entries)
      × ((store : Store) → Agrees store new
      → HasNode (laid old store) level two_at
      (child_bounds two after parent.upper) two_entries)
      × ReadsOnly two_at old new)
      ⊎ ((parent.index ≡ length before + 1) × (after ≡ []) × (at ≡ two_at) × (entries ≡ two_entries)
      × ((store : Store) → Agrees store new
      → HasNode (laid old store) level one_at
      (child_bounds one (two ∷ after) parent.upper) one_entries)
      × ReadsOnly one_at old new)

-- The two have room in one node, at the left one's address.
pub record Merges (level at : ℕ) (entries : List Entry) (parent : Step) (old new : Seen)
    (changes : List Change) (left : Option Edit) : Type 0 where
  pub thin : size entries < LEAST_BYTES
  pub pair : Neighbours level at entries parent old new
  pub room : size (pair.one_entries ++ pair.two_entries) ≤ ROOM_BYTES
  pub planned : changes
      ≡ (pair.two_at, None)
      ∷ (pair.one_at, Some (node_bytes level (pair.one_entries ++ pair.two_entries))) ∷ []
  pub next : new.next ≡ old.next
  pub parent_edit : left ≡ Some (Pair pair.two.0 None)

-- They have not, and are redistributed. The parent hears of the second one's new key, where it is
-- new.
pub record Redistributes (level at : ℕ) (entries : List Entry) (parent : Step) (old new : Seen)
    (changes : List Change) (left : Option Edit) : Type 0 where
  pub thin : size entries < LEAST_BYTES
  pub pair : Neighbours level at entries parent old new
  pub large : ROOM_BYTES < size (pair.one_entries ++ pair.two_entries)
  pub front : List Entry
  pub back : List Entry
  pub cut : pair.one_entries ++ pair.two_entries ≡ front ++ back
  pub is_cut : IsCut (pair.one_entries ++ pair.two_entries) (length front)
  pub front_part : IsPart front
  pub back_part : IsPart back
  pub planned : changes
      ≡ (pair.two_at, Some (node_bytes level back)) ∷ (pair.one_at, Some (node_bytes level front))
      ∷ []
  pub next : new.next ≡ old.next
  pub parent_edit : (left ≡ Some (Moved pair.two.0 (first_key back)))
      ⊎ ((left ≡ None) × (first_key back ≡ pair.two.0))

-- Two nodes of a level that the entries of one are cut into.
pub record AreHalves (level : ℕ) (entries : List Entry) (front back : Node) : Type 0 where
  pub cut : entries ≡ front.entries ++ back.entries
  pub is_cut : IsCut entries (length front.entries)
  pub front_level : front.level ≡ level
  pub back_level : back.level ≡ level
  pub front_node : IsNode level front.entries
  pub back_node : IsNode level back.entries
  pub front_part : IsPart front.entries
  pub back_part : IsPart back.entries

-- What is in hand of two neighbours: their addresses, the separator between them, and a node of all
-- their entries, but for its size.
pub record AreNeighbours (level at : ℕ) (entries : List Entry) (parent : Step) (old new : Seen)
    (held : HeldNeighbours) : Type 0 where
  pub thin : size entries < LEAST_BYTES
  pub pair : Neighbours level at entries parent old new
  pub left : pair.one_at ≡ held.left.0
  pub right : pair.two_at ≡ held.right.0
  pub separator : pair.two.0 ≡ held.separator
  pub level_is : held.both.level ≡ level
  pub both : pair.one_entries ++ pair.two_entries ≡ held.both.entries
  pub bounds : Bounds
  pub near : IsNearPlace level bounds held.both.entries
  pub filled : LEAST_BYTES ≤ size held.both.entries

-- Of two neighbours in hand it is planned to redistribute their entries.
pub record Redistributed (held : HeldNeighbours) (before after : List Change)
    (left : Option Edit) : Type 0 where
  pub front : List Entry
  pub back : List Entry
  pub cut : held.both.entries ≡ front ++ back
  pub large : ROOM_BYTES < size held.both.entries
  pub is_cut : IsCut held.both.entries (length front)
  pub front_part : IsPart front
  pub back_part : IsPart back
  pub planned : after
      ≡ (held.right.0, Some (node_bytes held.both.level back))
      ∷ (held.left.0, Some (node_bytes held.both.level front)) ∷ before
  pub parent_edit : (left ≡ Some (Moved held.separator (first_key back)))
      ⊎ ((left ≡ None) × (first_key back ≡ held.separator))

-- or to write them as one
pub record Merged (held : HeldNeighbours) (before after : List Change)
    (left : Option Edit) : Type 0 where
  pub room : size held.both.entries ≤ ROOM_BYTES
  pub planned : after
      ≡ (held.right.0, None) ∷ (held.left.0, Some (node_bytes held.both.level held.both.entries))
      ∷ before
  pub parent_edit : left ≡ Some (Pair held.separator None)

-- A node below the root is rebalanced in one of these ways.
abbrev pub Rebalanced : ℕ → ℕ → List Entry → Step → Seen → Seen → List Change → Option Edit → Type 0
Rebalanced level at entries parent old new changes left =
    Fits level at entries old new changes left ⊎ (SplitsInTwo level at entries old new changes left
    ⊎ (Merges level at entries parent old new changes left
    ⊎ Redistributes level at entries parent old new changes left))

-- why a node was not rebalanced: a neighbour of it is no node in its place, and reads alone were
-- made
abbrev pub IsRebalanceFault : ℕ → Step → Seen → Seen → TreeFault → Type 0
IsRebalanceFault level parent old new =
    Blames (λ at. OnlyRead old new
    × ((front : List Entry) × (back : List Entry) × (b : Bounds)
    × Child parent.node.entries parent.upper front back at b
    × ((store : Store) → Agrees store new → IsBroken (laid old store) level at b)))
