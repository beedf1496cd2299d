-- Trees of logical nodes in a store: which are well formed, and which nodes they have.
use Rattle.std.specs.Prelude.{◌≡◌, ◌⊎◌, ℕ, zero, suc, ◌<◌, ◌≤◌, ◌^◌, List, [], ◌∷◌, Option, Some, None}
use Rattle.std.specs.List.{All, Contains}
use Rattle.sea_base.specs.Field.{big_endian}
use Rattle.sea_base.specs.Space.{Store}
use Rattle.sea_node.specs.Entries.{Entry, IsBelow, IsNotAbove, size}
use Rattle.sea_node.specs.Node.{Spells}
use Rattle.sea_tree.specs.declared.place.TheConstants.{LEAST_BYTES}

-- a node stands at an address
pub record NodeAt (store : Store) (at level : ℕ) (entries : List Entry) : Type 0 where
  pub bytes : List ℕ
  pub here : store at ≡ Some bytes
  pub spells : Spells bytes level entries

-- a key is below a bound, if there is one
abbrev pub IsWithin : List ℕ → Option (List ℕ) → Type 0
IsWithin key None = Unit {0}
IsWithin key (Some bound) = IsBelow key bound

-- What a node's parent asks of it beside its level: the least bytes of entries that it has, the
-- separator that leads to it, and the next one.
pub record Bounds : Type 0 where
  pub least : ℕ
  pub lower : List ℕ
  pub upper : Option (List ℕ)

-- a key is one that the separators around a node lead to it
abbrev pub LiesWithin : List ℕ → Bounds → Type 0
LiesWithin key bounds = IsNotAbove bounds.lower key × IsWithin key bounds.upper

-- A root may have as few bytes as it likes. Its first separator is the one-byte key 0.
abbrev pub root_bounds : Bounds
root_bounds = record { least = 0; lower = 0 ∷ []; upper = None }

abbrev pub first_key : List Entry → List ℕ
first_key [] = []
first_key (entry ∷ entries) = entry.0

-- A node is in its place: it is filled, and its keys are not below its separator and below the
-- next. Above the leaves its first key is its separator.
pub record IsInPlace (level : ℕ) (bounds : Bounds) (entries : List Entry) : Type 0 where
  pub filled : bounds.least ≤ size entries
  pub lower : All (λ e. IsNotAbove bounds.lower e.0) entries
  pub upper : All (λ e. IsWithin e.0 bounds.upper) entries
  pub first : 1 ≤ level → first_key entries ≡ bounds.lower

-- the key of the next entry, or what bounds the last
abbrev pub next_key : List Entry → Option (List ℕ) → Option (List ℕ)
next_key [] upper = upper
next_key (entry ∷ entries) upper = Some entry.0

-- what a node asks of the child of an entry, with the entries after it: 1,016 bytes of entries at
-- least
abbrev pub child_bounds : Entry → List Entry → Option (List ℕ) → Bounds
child_bounds entry after upper =
    record { least = LEAST_BYTES; lower = entry.0; upper = next_key after upper }

-- a value above the leaves is the address of a child
abbrev pub IsAddress : List ℕ → ℕ → Type 0
IsAddress value at = (at < 2 ^ 64) × (value ≡ big_endian 8 at)

-- what holds of the child of each entry, with its bounds
abbrev pub EachChild : (ℕ → Bounds → Type 0) → List Entry → Option (List ℕ) → Type 0
EachChild P [] upper = Unit {0}
EachChild P (entry ∷ after) upper =
    ((child : ℕ) × IsAddress entry.1 child × P child (child_bounds entry after upper))
    × EachChild P after upper

-- The nodes from this address down are in their places. A child's level is one below its parent's.
abbrev pub IsSubtree : Store → ℕ → ℕ → Bounds → Type 0
IsSubtree store zero at bounds =
    (entries : List Entry) × NodeAt store at 0 entries × IsInPlace 0 bounds entries
IsSubtree store (suc level) at bounds =
    (entries : List Entry) × NodeAt store at (suc level) entries
    × IsInPlace (suc level) bounds entries
    × EachChild (IsSubtree store level) entries bounds.upper

-- A tree is well formed. Nothing at the root's address is the empty tree.
abbrev pub IsTree : Store → ℕ → Type 0
IsTree store root = (store root ≡ None) ⊎ ((level : ℕ) × IsSubtree store level root root_bounds)

-- an address is that of a node, from this one of a level down
abbrev pub IsBelowNode : Store → ℕ → ℕ → ℕ → Type 0
IsBelowNode store zero at q = q ≡ at
IsBelowNode store (suc level) at q =
    (q ≡ at) ⊎ ((entries : List Entry) × NodeAt store at (suc level) entries
    × ((entry : Entry) × Contains entries entry
    × ((child : ℕ) × IsAddress entry.1 child × IsBelowNode store level child q)))

-- an address is that of a node of the tree
abbrev pub IsNodeOf : Store → ℕ → ℕ → Type 0
IsNodeOf store root q =
    (level : ℕ) × ((entries : List Entry) × NodeAt store root level entries)
    × IsBelowNode store level root q

-- two trees share no node
abbrev pub AreApart : Store → ℕ → ℕ → Type 0
AreApart store a b = (q : ℕ) → IsNodeOf store a q → IsNodeOf store b q → ⊥
