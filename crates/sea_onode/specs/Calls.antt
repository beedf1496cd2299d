-- What the calls on the onode tree do, on every store that agrees with what was read.
use Rattle.std.specs.Prelude.{◌≡◌, ◌≢◌, ◌⊎◌, ℕ, ◌<◌, ◌≤◌, List, [], ◌∷◌, map as each, Option, Some, None, MatchOption}
use Rattle.std.specs.Option.{unwrap_or}
use Rattle.std.specs.FinMap as map
use Rattle.sea_base.specs.Space.{Store, Seen, Found, Agrees, OnlyRead, laid}
use Rattle.sea_node.specs.Entries.{Entry, Values}
use Rattle.sea_object.specs.declared.onode.Onode.{Onode}
use Rattle.sea_tree.specs.declared.fault.TreeFault.{TreeFault}
use Rattle.sea_tree.specs.Breaks.{IsBreakOnPath}
use Rattle.sea_tree.specs.Calls as tree
use Rattle.sea_tree.specs.Faults.{Blames}
use Rattle.sea_tree.specs.Form.{HasForm, HasFirst}
use Rattle.sea_tree.specs.Reads.{ReadsPath, ReadsRange}
use Rattle.sea_onode.specs.Spelling.{SpellNone, IsValueOf, onode_bytes}
use Rattle.sea_onode.specs.Onodes.{Onodes, AreSpelled, HasOnodes}
use Rattle.sea_onode.specs.Order.{AreInOrder, Fits}

-- A store that a call speaks of: it agrees with what was read as the call ends; with the changes
-- made before the call laid over it, the onode tree holds these onodes; and no address that the
-- call allocated is filled.
pub record Meets (store : Store) (old new : Seen) (before : Onodes) : Type 0 where
  pub agrees : Agrees store new
  pub onodes : HasOnodes (laid old store) before
  pub fresh : (at : ℕ) → old.next ≤ at → at < new.next → laid old store at ≡ None

-- With the changes of the call laid over it, the onode tree holds these onodes, and all else is as a
-- change of a tree leaves it.
pub record Becomes (store : Store) (old new : Seen) (after : Onodes) : Type 0 where
  pub content : Values
  pub spelled : AreSpelled content after
  pub tree : tree.Becomes store 1 old new content

-- What a lookup of a name found: on a store whose onode tree is well formed, the onode that the
-- value of the name spells; so that of a map of onodes, where all its values spell one.
pub record Finds (name : List ℕ) (old new : Seen) (found : Option Onode) : Type 0 where
  pub value : (store : Store) (content : Values) → tree.Meets store 1 old new content
      → IsValueOf (map.get content name) found
  pub onode : (store : Store) (onodes : Onodes) → Meets store old new onodes
      → found ≡ map.get onodes name

-- what stands under a name is there, and spells no onode
abbrev pub IsNoOnode : Option (List ℕ) → Type 0
IsNoOnode None = ⊥
IsNoOnode (Some bytes) = SpellNone bytes

-- Why a lookup of a name ended with a fault: the first break on the path to it; or the path is
-- whole, and what stands under the name spells no onode, and then the tree's root is named.
abbrev pub IsFindFault : List ℕ → Seen → Seen → TreeFault → Type 0
IsFindFault name old new =
    Blames
    (λ at. ((store : Store) → Agrees store new → IsBreakOnPath (laid old store) name 1 at)
    ⊎ ((at ≡ 1) × tree.IsWholePath 1 name old new
    × ((store : Store) (content : Values) → tree.Meets store 1 old new content
    → IsNoOnode (map.get content name))))

-- What a save of an onode leaves: it stands under its name, and no other onode is changed. Where
-- the objects were in order and it fits among them, they are in order.
pub record Saves (store : Store) (name : List ℕ) (onode : Onode) (old new : Seen)
    (before : Onodes) : Type 0 where
  pub becomes : Becomes store old new (map.insert before name onode)
  pub order : AreInOrder (laid old store) old.next before
      → Fits (laid old store) old.next before name onode
      → AreInOrder (laid new store) new.next (map.insert before name onode)

-- What the erasure of a name leaves: no onode stands under it, and no other is changed. Where the
-- objects were in order, the others are.
pub record Erases (store : Store) (name : List ℕ) (old new : Seen) (before : Onodes) : Type 0 where
  pub becomes : Becomes store old new (map.remove before name)
  pub order : AreInOrder (laid old store) old.next before
      → AreInOrder (laid new store) new.next (map.remove before name)

-- what was noted stays
abbrev pub NotesMore : Seen → Seen → Type 0
NotesMore old new =
    (at : ℕ) (found : Found) → old.reads at ≡ Some found → new.reads at ≡ Some found

-- an onode's value was put under its name, behind reads of the path to it
pub record IsPut (name : List ℕ) (onode : Onode) (old new : Seen) : Type 0 where
  pub between : Seen
  pub reads : OnlyRead old between
  pub on_path : ReadsPath 1 name old between
  pub put : HasForm 1 name (Some (onode_bytes onode)) between new
      ⊎ HasFirst 1 name (onode_bytes onode) between new

-- How an onode was saved: where the same stands under the name already, the path to it was read and
-- nothing changed; else its value was put.
pub record SaveForm (store : Store) (name : List ℕ) (onode : Onode) (old new : Seen)
    (before : Onodes) : Type 0 where
  pub same : map.get before name ≡ Some onode → OnlyRead old new × ReadsPath 1 name old new
  pub other : map.get before name ≢ Some onode → IsPut name onode old new

-- How a name was erased: where none stands, nothing was changed; else it was taken out of the tree.
abbrev pub EraseForm : List ℕ → Seen → Seen → Onodes → Type 0
EraseForm name old new before =
    MatchOption (map.get before name) (OnlyRead old new) (λ onode. HasForm 1 name None old new)

-- What a listing from a key on has read: the pairs of these names, as a range of the tree.
pub record ListsFrom (from : List ℕ) (limit : ℕ) (found : List (List ℕ)) (old new : Seen) : Type 0 where
  pub pairs : List Entry
  pub named : found ≡ each (λ e. e.0) pairs
  pub whole : tree.WalksWhole 1 from limit pairs old new
  pub within : ReadsRange 1 from limit pairs old new

-- the first key that a listing behind a name may have
abbrev pub first_after : Option (List ℕ) → List ℕ
first_after after = unwrap_or after (0 ∷ [])
