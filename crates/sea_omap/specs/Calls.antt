-- What the calls on keys of one tree do, on every store that agrees with what was read.
use Rattle.std.specs.Prelude.{◌≡◌, ◌≢◌, ◌⊎◌, ℕ, ◌-◌, ◌*◌, ◌^◌, ◌<◌, ◌≤◌, Bool, true, List, ◌∷◌, ◌++◌, Option, None}
use Rattle.std.specs.List.{count_by}
use Rattle.sea_base.specs.Space.{Store, Seen, laid}
use Rattle.sea_node.specs.Entries.{Values}
use Rattle.sea_tree.specs.declared.fault.TreeFault.{TreeFault}
use Rattle.sea_tree.specs.declared.plan.TheConstants.{CHANGED_BLOCKS}
use Rattle.sea_tree.specs.Tree.{IsNodeOf, AreApart}
use Rattle.sea_tree.specs.Content.{HasContent}
use Rattle.sea_tree.specs.Does.{ChangesAtMost}
use Rattle.sea_tree.specs.Breaks.{FillsFewer}
use Rattle.sea_tree.specs.Calls.{ChangeFailure, IsOfSpace}
use Rattle.sea_tree.specs.Calls.{Meets as MeetsOne}
use Rattle.sea_omap.specs.Changes.{Change, ChangesKeys}

-- an address was given between these moments
abbrev pub IsGiven : Seen → Seen → ℕ → Type 0
IsGiven old new at = (old.next ≤ at) × (at < new.next)

-- an address is one of the tree's own: its root, a node of it before, or one that was given
abbrev pub IsOwn : Store → ℕ → Seen → Seen → ℕ → Type 0
IsOwn store root old new at =
    (at ≡ root) ⊎ (IsNodeOf (laid old store) root at ⊎ IsGiven old new at)

-- A store that a call speaks of: it agrees with what was read as the call ends; with the changes
-- made before the call laid over it, the tree is well formed and has this content; and no address
-- that the call was given is filled, or is the root.
pub record Meets (store : Store) (root : ℕ) (old new : Seen) (before : Values) : Type 0 where
  pub tree : MeetsOne store root old new before
  pub rooted : (root < old.next) ⊎ (new.next ≤ root)

-- With the changes of the call laid over it, the tree is well formed with the new content; nothing
-- else changed but its own addresses, and its nodes are among these; of these, those that are
-- filled are its nodes, so nothing is left over. Another tree that shares no node with this one,
-- and whose root wasn't given, keeps its content.
pub record Becomes (store : Store) (root : ℕ) (old new : Seen) (after : Values) : Type 0 where
  pub content : HasContent (laid new store) root after
  pub elsewhere : (at : ℕ) → at ≢ root → (IsNodeOf (laid old store) root at → ⊥)
      → (at < old.next) ⊎ (new.next ≤ at) → laid new store at ≡ laid old store at
  pub nodes : (at : ℕ) → IsNodeOf (laid new store) root at → IsOwn store root old new at
  pub left : (at : ℕ) → IsOwn store root old new at → laid new store at ≢ None
      → IsNodeOf (laid new store) root at
  pub others : (other : ℕ) (kept : Values) → other ≢ root → HasContent (laid old store) other kept
      → AreApart (laid old store) root other → (other < old.next) ⊎ (new.next ≤ other)
      → HasContent (laid new store) other kept

-- The keys were changed in order, and so many of the values that they had as their turn came pass
-- the test.
pub record Counts (root : ℕ) (changes : List Change) (test : Option (List ℕ) → Bool) (count : ℕ)
    (old new : Seen) : Type 0 where
  pub found : List (Option (List ℕ))
  pub changed : ChangesKeys root changes found old new
  pub counted : count ≡ count_by test found

-- What a call that changed so many keys has read and written.
pub record Footprint (root keys : ℕ) (old new : Seen) : Type 0 where
  -- what was newly read is one of the tree's own addresses
  pub reads : (store : Store) (content : Values) → Meets store root old new content → (at : ℕ)
      → (new.reads at ≡ old.reads at) ⊎ IsOwn store root old new at
  -- and so is what was changed
  pub changes : (store : Store) (content : Values) → Meets store root old new content → (at : ℕ)
      → new.changed at ≡ true → (old.changed at ≡ true) ⊎ IsOwn store root old new at
  -- few of those that were changed are filled still
  pub few : ChangesAtMost (keys * CHANGED_BLOCKS) old new

-- Why a call failed, and what stands then: the keys before one were changed, and the call of the
-- tree at that one failed.
pub record Fails (root : ℕ) (changes : List Change) (old new : Seen)
    (fault : TreeFault) : Type 0 where
  pub done : List Change
  pub change : Change
  pub rest : List Change
  pub split : changes ≡ done ++ change ∷ rest
  pub found : List (Option (List ℕ))
  pub mid : Seen
  pub changed : ChangesKeys root done found old mid
  pub failure : ChangeFailure root change.0 mid new fault
  -- on few filled addresses a well-formed tree can always grow
  pub never_full : (store : Store) (content : Values) → Meets store root old new content
      → FillsFewer (laid old store) (2 ^ 25 - 2 ^ 20) → IsOfSpace fault
