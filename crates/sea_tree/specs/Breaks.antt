-- Where a tree is not well formed.
use Rattle.std.specs.Prelude.{◌≡◌, ◌≢◌, ◌⊎◌, ℕ, ◌-◌, zero, suc, ◌<◌, List, ◌∷◌, ◌++◌, length, Option, Some, None}
use Rattle.std.specs.List.{Contains}
use Rattle.sea_base.specs.Space.{Store}
use Rattle.sea_node.specs.Entries.{Entry, size}
use Rattle.sea_tree.specs.Tree.{NodeAt, Bounds, root_bounds, LiesWithin, IsInPlace, child_bounds, IsAddress, EachChild, IsSubtree}
use Rattle.sea_node.specs.declared.node.TheConstants.{ROOM_BYTES}
use Rattle.sea_tree.specs.declared.place.TheConstants.{SEPARATOR_BYTES}
use Rattle.sea_tree.specs.declared.rooting.TheConstants.{TOP_LEVEL}

-- the block at an address is no node in its place
abbrev pub IsBroken : Store → ℕ → ℕ → Bounds → Type 0
IsBroken store level at bounds =
    (entries : List Entry) → NodeAt store at level entries → IsInPlace level bounds entries → ⊥

-- there is a node in its place
abbrev pub HasNode : Store → ℕ → ℕ → Bounds → List Entry → Type 0
HasNode store level at bounds entries =
    NodeAt store at level entries × IsInPlace level bounds entries

-- one entry of a node, between those before it and those after it
pub record Child (entries : List Entry) (upper : Option (List ℕ)) (before after : List Entry)
    (child : ℕ) (bounds : Bounds) : Type 0 where
  pub entry : Entry
  pub split : entries ≡ before ++ entry ∷ after
  pub address : IsAddress entry.1 child
  pub bounds_are : bounds ≡ child_bounds entry after upper

-- An address is reached from this one by nodes in their places, and is itself none in its place.
abbrev pub BreaksBelow : Store → ℕ → ℕ → Bounds → ℕ → Type 0
BreaksBelow store zero at bounds q = (q ≡ at) × IsBroken store 0 at bounds
BreaksBelow store (suc level) at bounds q =
    ((q ≡ at) × IsBroken store (suc level) at bounds)
    ⊎ ((entries : List Entry) × HasNode store (suc level) at bounds entries
    × ((before : List Entry) × (after : List Entry) × (child : ℕ) × (b : Bounds)
    × Child entries bounds.upper before after child b × BreaksBelow store level child b q))

-- It is the first such in a walk with parents before their children, and these in the order of
-- their keys.
abbrev pub BreaksFirst : Store → ℕ → ℕ → Bounds → ℕ → Type 0
BreaksFirst store zero at bounds q = (q ≡ at) × IsBroken store 0 at bounds
BreaksFirst store (suc level) at bounds q =
    ((q ≡ at) × IsBroken store (suc level) at bounds)
    ⊎ ((entries : List Entry) × HasNode store (suc level) at bounds entries
    × ((before : List Entry) × (after : List Entry) × (child : ℕ) × (b : Bounds)
    × Child entries bounds.upper before after child b
    × EachChild (IsSubtree store level) before (Some b.lower) × BreaksFirst store level child b q))

-- the same below a node with these entries, which is itself in its place
abbrev pub BreaksUnder : Store → ℕ → List Entry → Option (List ℕ) → ℕ → Type 0
BreaksUnder store zero entries upper q = ⊥
BreaksUnder store (suc level) entries upper q =
    (before : List Entry) × (after : List Entry) × (child : ℕ) × (b : Bounds)
    × Child entries upper before after child b
    × EachChild (IsSubtree store level) before (Some b.lower) × BreaksFirst store level child b q

-- It is the first such on the path to a key.
abbrev pub BreaksOnPath : Store → List ℕ → ℕ → ℕ → Bounds → ℕ → Type 0
BreaksOnPath store key zero at bounds q = (q ≡ at) × IsBroken store 0 at bounds
BreaksOnPath store key (suc level) at bounds q =
    ((q ≡ at) × IsBroken store (suc level) at bounds)
    ⊎ ((entries : List Entry) × HasNode store (suc level) at bounds entries
    × ((before : List Entry) × (after : List Entry) × (child : ℕ) × (b : Bounds)
    × Child entries bounds.upper before after child b
    × LiesWithin key b × BreaksOnPath store key level child b q))

-- the same from a root, whose level is that of its own node
abbrev pub FromRoot : (ℕ → ℕ → Bounds → ℕ → Type 0) → Store → ℕ → ℕ → Type 0
FromRoot below store root q =
    (store root ≢ None)
    × (((q ≡ root) × ((level : ℕ) → IsBroken store level root root_bounds))
    ⊎ ((level : ℕ) × ((entries : List Entry) × HasNode store level root root_bounds entries)
    × below level root root_bounds q))

abbrev pub Breaks : Store → ℕ → ℕ → Type 0
Breaks store root q = FromRoot (BreaksBelow store) store root q

abbrev pub IsFirstBreak : Store → ℕ → ℕ → Type 0
IsFirstBreak store root q = FromRoot (BreaksFirst store) store root q

abbrev pub IsBreakOnPath : Store → List ℕ → ℕ → ℕ → Type 0
IsBreakOnPath store key root q = FromRoot (BreaksOnPath store key) store root q

-- the tree can't grow: its root has the highest level, and no room for one more separator
abbrev pub IsFull : Store → ℕ → Type 0
IsFull store root =
    (entries : List Entry) × NodeAt store root TOP_LEVEL entries
    × (ROOM_BYTES - SEPARATOR_BYTES < size entries)

-- fewer addresses than this are filled
abbrev pub FillsFewer : Store → ℕ → Type 0
FillsFewer store count =
    (filled : List ℕ) × (length filled < count) × ((at : ℕ) → store at ≢ None → Contains filled at)
