-- Rebalancing the root, and what a change of one pair does to a store in which its tree stands.
use Rattle.std.specs.Prelude.{◌≡◌, ◌≢◌, ◌⊎◌, ℕ, suc, ◌+◌, ◌<◌, ◌≤◌, List, [], ◌∷◌, ◌++◌, length, true, Option, Some, None}
use Rattle.std.specs.FinMap as map
use Rattle.sea_base.specs.Field.{big_endian}
use Rattle.sea_base.specs.Space.{Store, Seen, Agrees, laid}
use Rattle.sea_node.specs.Entries.{Entry, Values, size}
use Rattle.sea_node.specs.Node.{IsNode, node_bytes}
use Rattle.sea_tree.specs.Tree.{IsNodeOf, AreApart, IsAddress, first_key}
use Rattle.sea_tree.specs.Content.{HasContent}
use Rattle.sea_tree.specs.Calls.{Meets}
use Rattle.sea_tree.specs.Cut.{IsCut}
use Rattle.sea_tree.specs.Does.{Change, overlaid, is_among}
use Rattle.sea_tree.specs.Mending.{IsPart}
use Rattle.sea_node.specs.declared.node.TheConstants.{ROOM_BYTES}
use Rattle.sea_tree.specs.declared.rooting.TheConstants.{TOP_LEVEL}

-- The store as it is has the new content; nothing else is changed but the root and what was given.
pub record Changed (was is : Store) (root first last : ℕ) (after : Values) : Type 0 where
  pub content : HasContent is root after
  pub elsewhere : (at : ℕ) → at ≢ root → (IsNodeOf was root at → ⊥) → (at < first) ⊎ (last ≤ at)
      → is at ≡ was at
  pub nodes : (at : ℕ) → IsNodeOf is root at
      → (at ≡ root) ⊎ (IsNodeOf was root at ⊎ ((first ≤ at) × (at < last)))
  pub left : (at : ℕ) → (at ≡ root) ⊎ (IsNodeOf was root at ⊎ ((first ≤ at) × (at < last)))
      → is at ≢ None → IsNodeOf is root at
  pub used : (at : ℕ) → first ≤ at → at < last → IsNodeOf is root at
  pub others : (other : ℕ) (kept : Values) → other ≢ root → HasContent was other kept
      → AreApart was root other → (other < first) ⊎ (last ≤ other) → HasContent is other kept

-- a content with this value at a key, or without the key
abbrev pub changed_content : List ℕ → Option (List ℕ) → Values → Values
changed_content key (Some value) content = map.insert content key value
changed_content key None content = map.remove content key

-- What is planned makes the change of a pair, on every store that the call speaks of.
abbrev pub IsPlanned : ℕ → List ℕ → Option (List ℕ) → Seen → Seen → List Change → Type 0
IsPlanned root key value old new changes =
    (store : Store) (before : Values) → Meets store root old new before
    → Changed (laid old store) (overlaid changes (laid old store)) root old.next new.next
    (changed_content key value before)

-- It writes the root, nodes of the tree, and what was given.
abbrev pub TouchesOwn : ℕ → Seen → Seen → List Change → Type 0
TouchesOwn root old new changes =
    (store : Store) (q : ℕ) → Agrees store new → is_among changes q ≡ true
    → (q ≡ root) ⊎ (IsNodeOf (laid old store) root q ⊎ ((old.next ≤ q) × (q < new.next)))

-- the entries of a root over two nodes
abbrev pub root_entries : ℕ → List Entry → List Entry
root_entries first right =
    (0 ∷ [], big_endian 8 first) ∷ (first_key right, big_endian 8 (first + 1)) ∷ []

-- The root is a node with these entries.
pub record RootFits (level root : ℕ) (entries : List Entry) (old new : Seen)
    (changes : List Change) : Type 0 where
  pub node : IsNode level entries
  pub planned : changes ≡ (root, Some (node_bytes level entries)) ∷ []
  pub next : new.next ≡ old.next

-- It has too many, and goes over two fresh nodes.
pub record RootSplits (level root : ℕ) (entries : List Entry) (old new : Seen)
    (changes : List Change) : Type 0 where
  pub front : List Entry
  pub back : List Entry
  pub low : level < TOP_LEVEL
  pub large : ROOM_BYTES < size entries
  pub cut : entries ≡ front ++ back
  pub is_cut : IsCut entries (length front)
  pub front_part : IsPart front
  pub back_part : IsPart back
  pub planned : changes
      ≡ (root, Some (node_bytes (suc level) (root_entries old.next back)))
      ∷ (old.next + 1, Some (node_bytes level back)) ∷ (old.next, Some (node_bytes level front))
      ∷ []
  pub next : new.next ≡ old.next + 2

-- It has one child alone, and takes what is to stand there.
pub record RootCollapses (level root : ℕ) (entries : List Entry) (old new : Seen)
    (before changes : List Change) : Type 0 where
  pub below : ℕ
  pub only : Entry
  pub child : ℕ
  pub block : Option (List ℕ)
  pub level_is : level ≡ suc below
  pub one : entries ≡ only ∷ []
  pub address : IsAddress only.1 child
  pub child_block : (store : Store) → block ≡ overlaid before store child
  pub planned : changes ≡ (child, None) ∷ (root, block) ∷ []
  pub next : new.next ≡ old.next

-- It has no entry, and nothing is left there.
pub record RootEmpties (level root : ℕ) (entries : List Entry) (old new : Seen)
    (changes : List Change) : Type 0 where
  pub leaf : level ≡ 0
  pub empty : entries ≡ []
  pub planned : changes ≡ (root, None) ∷ []
  pub next : new.next ≡ old.next

-- The root is rebalanced in one of these ways, behind what is planned before.
abbrev pub RootRebalanced : ℕ → ℕ → List Entry → Seen → Seen → List Change → List Change → Type 0
RootRebalanced level root entries old new before changes =
    RootFits level root entries old new changes ⊎ (RootSplits level root entries old new changes
    ⊎ (RootCollapses level root entries old new before changes
    ⊎ RootEmpties level root entries old new changes))
