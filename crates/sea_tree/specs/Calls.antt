-- What the calls on a tree do, on every store that agrees with what was read.
use Rattle.std.specs.Prelude.{◌≡◌, ◌≢◌, ◌⊎◌, ◌↔◌, ℕ, ◌-◌, ◌<◌, ◌≤◌, ◌^◌, true, List, [], filter, length, min, Option, Some, None, Result, Ok, Err}
use Rattle.std.specs.List.{All, Contains, AllPairs}
use Rattle.std.specs.Ordering.{is_lt}
use Rattle.std.specs.FinMap as map
use Rattle.sea_base.specs.Space.{Store, Seen, Agrees, laid}
use Rattle.sea_base.specs.declared.space.SpaceFault.TheVariants.{NoMemory, DeviceFault, Damaged}
use Rattle.sea_base.specs.declared.space.SpaceFault.{SpaceFault}
use Rattle.sea_tree.specs.Faults.{Blames}
use Rattle.sea_node.specs.Entries.{Entry, Values, key_order, IsNotAbove}
use Rattle.sea_tree.specs.declared.fault.TreeFault.{TreeFault}
use Rattle.sea_tree.specs.declared.fault.TreeFault.TheVariants.{Space, Broken}
use Rattle.sea_tree.specs.Tree.{IsTree, IsSubtree, root_bounds, IsNodeOf, AreApart, IsWithin}
use Rattle.sea_tree.specs.Content.{HasContent}
use Rattle.sea_node.specs.declared.reading.TheConstants.{ENTRY_BYTES}
use Rattle.sea_tree.specs.declared.plan.TheConstants.{CHANGED_BLOCKS}
use Rattle.sea_tree.specs.Does.{Does, ChangesAtMost, SplicesOnce}
use Rattle.sea_tree.specs.Reads.{ReadsNear, ReadsTree}
use Rattle.sea_tree.specs.Breaks.{Breaks, IsFirstBreak, IsBreakOnPath, IsFull, FillsFewer}

-- A store that a call speaks of: it agrees with what was read as the call ends; with the changes
-- made before the call laid over it, the tree is well formed and has this content; and no address
-- that the call allocated is filled.
pub record Meets (store : Store) (root : ℕ) (old new : Seen) (before : Values) : Type 0 where
  pub agrees : Agrees store new
  pub content : HasContent (laid old store) root before
  pub fresh : (at : ℕ) → old.next ≤ at → at < new.next → laid old store at ≡ None

-- With the changes of the call laid over it, the tree has the new content; nothing else changed but
-- its root and what the call allocated, and the tree has no other node than its own old ones and
-- these. Of its old nodes, its root and these, those that are filled are its nodes, so nothing is
-- left over; and each address that was allocated is one. The tree has at most 8 levels. Another
-- tree that shares no node with this one, and whose root wasn't allocated, keeps its content.
pub record Becomes (store : Store) (root : ℕ) (old new : Seen) (after : Values) : Type 0 where
  pub content : HasContent (laid new store) root after
  pub elsewhere : (at : ℕ) → at ≢ root → (IsNodeOf (laid old store) root at → ⊥)
      → (at < old.next) ⊎ (new.next ≤ at) → laid new store at ≡ laid old store at
  pub nodes : (at : ℕ) → IsNodeOf (laid new store) root at
      → (at ≡ root) ⊎ (IsNodeOf (laid old store) root at ⊎ ((old.next ≤ at) × (at < new.next)))
  pub left : (at : ℕ)
      → (at ≡ root) ⊎ (IsNodeOf (laid old store) root at ⊎ ((old.next ≤ at) × (at < new.next)))
      → laid new store at ≢ None → IsNodeOf (laid new store) root at
  pub used : (at : ℕ) → old.next ≤ at → at < new.next → IsNodeOf (laid new store) root at
  pub levels : (level : ℕ) → IsSubtree (laid new store) level root root_bounds → level ≤ 7
  pub others : (other : ℕ) (kept : Values) → other ≢ root → HasContent (laid old store) other kept
      → AreApart (laid old store) root other → (other < old.next) ⊎ (new.next ≤ other)
      → HasContent (laid new store) other kept

-- Nothing was changed but the tree's own: its root, its nodes before the call, and what the call
-- allocated.
abbrev pub ChangesOwn : ℕ → Seen → Seen → Type 0
ChangesOwn root old new =
    (store : Store) (at : ℕ) → Agrees store new → new.changed at ≡ true
    → (old.changed at ≡ true)
    ⊎ ((at ≡ root) ⊎ (IsNodeOf (laid old store) root at ⊎ ((old.next ≤ at) × (at < new.next))))

-- The same of a call that drops a tree: it changed the nodes alone, so nothing where the tree was
-- empty.
abbrev pub DropsOwn : ℕ → Seen → Seen → Type 0
DropsOwn root old new =
    (store : Store) (at : ℕ) → Agrees store new → new.changed at ≡ true
    → (old.changed at ≡ true) ⊎ IsNodeOf (laid old store) root at

-- the pairs of a content with keys above a bound, in the order of keys
abbrev pub pairs_above : Option (List ℕ) → Values → List Entry
pairs_above None content = map.entries content
pairs_above (Some bound) content = filter (λ e. is_lt (key_order bound e.0)) (map.entries content)

-- why a call that reads all nodes, parents first, ended with a fault
abbrev pub IsWalkFault : ℕ → Seen → Seen → TreeFault → Type 0
IsWalkFault root old new =
    Blames (λ at. (store : Store) → Agrees store new → IsFirstBreak (laid old store) root at)

-- why a call that reads the path to a key did
abbrev pub IsPathFault : ℕ → List ℕ → Seen → Seen → TreeFault → Type 0
IsPathFault root key old new =
    Blames (λ at. (store : Store) → Agrees store new → IsBreakOnPath (laid old store) key root at)

-- the path to a key is whole
abbrev pub IsWholePath : ℕ → List ℕ → Seen → Seen → Type 0
IsWholePath root key old new =
    (store : Store) (at : ℕ) → Agrees store new → IsBreakOnPath (laid old store) key root at → ⊥

-- the paths to the keys from one on, up to another, are whole
abbrev pub AreWholePaths : ℕ → List ℕ → Option (List ℕ) → Seen → Seen → Type 0
AreWholePaths root from upto old new =
    (key : List ℕ) → IsNotAbove from key → IsWithin key upto → IsWholePath root key old new

-- Why a call that reads leaves from a key on did: the path to some key breaks, and those to the
-- keys before it are whole.
abbrev pub IsRangeFault : ℕ → List ℕ → Seen → Seen → TreeFault → Type 0
IsRangeFault root from old new =
    Blames (λ at. (key : List ℕ) × IsNotAbove from key × AreWholePaths root from (Some key) old new
    × ((store : Store) → Agrees store new → IsBreakOnPath (laid old store) key root at))

-- Such a call has found the paths whole, up to all keys, or to behind the last of as many pairs as
-- were wanted.
pub record WalksWhole (root : ℕ) (from : List ℕ) (limit : ℕ) (found : List Entry)
    (old new : Seen) : Type 0 where
  pub upto : Option (List ℕ)
  pub whole : AreWholePaths root from upto old new
  pub below : All (λ e. IsWithin e.0 upto) found
  pub ends : (upto ≡ None) ⊎ (length found ≡ limit)

-- why a change was not planned: a neighbour of the path breaks, or the tree can't grow
abbrev pub IsPlanFault : ℕ → Seen → Seen → TreeFault → Type 0
IsPlanFault root old new =
    Blames
    (λ at. (store : Store) → Agrees store new
    → Breaks (laid old store) root at ⊎ ((at ≡ root) × IsFull (laid old store) root))

-- Why a call that changes a pair ended with a fault: this is the first break on the path to the
-- key; or that is whole, and a neighbour of it breaks, or the tree can't grow.
abbrev pub IsChangeFault : ℕ → List ℕ → Seen → Seen → TreeFault → Type 0
IsChangeFault root key old new =
    Blames (λ at. ((store : Store) → Agrees store new → IsBreakOnPath (laid old store) key root at)
    ⊎ (IsWholePath root key old new
    × ((store : Store) → Agrees store new
    → Breaks (laid old store) root at ⊎ ((at ≡ root) × IsFull (laid old store) root))))

-- What a walk of a whole tree tells: it is well formed, with so many pairs, by a count that stands
-- still at 2^64 - 1, and these are its nodes, each once.
pub record IsWalked (store : Store) (root pairs : ℕ) (walked : List ℕ) : Type 0 where
  pub tree : IsTree store root
  pub counted : (content : Values) → HasContent store root content
      → pairs ≡ min (map.len content) (2 ^ 64 - 1)
  pub once : AllPairs ◌≢◌ walked
  pub nodes : (at : ℕ) → Contains walked at ↔ IsNodeOf store root at

-- A call that ended with this fault has changed nothing: it has read, and may have been given
-- addresses. Want of memory alone may come behind the first change.
abbrev pub IsUnchanged : Seen → Seen → TreeFault → Type 0
IsUnchanged old new (Space NoMemory) = Unit {0}
IsUnchanged old new (Space DeviceFault) = Does [] old new
IsUnchanged old new (Space (Damaged block kept found)) = Does [] old new
IsUnchanged old new (Broken at) = Does [] old new

-- a fault of the space, and not of the tree
abbrev pub IsOfSpace : TreeFault → Type 0
IsOfSpace (Space fault) = Unit {0}
IsOfSpace (Broken at) = ⊥

-- the fault of the space that a call ended with, if there is one
abbrev pub space_fault : {T : Type 0} → Result T TreeFault → Option SpaceFault
space_fault (Ok answer) = None
space_fault (Err (Space fault)) = Some fault
space_fault (Err (Broken at)) = None

-- why a root was not rebalanced: it can't grow
abbrev pub IsRootRebalanceFault : ℕ → Seen → Seen → TreeFault → Type 0
IsRootRebalanceFault root old new =
    Blames (λ at. (at ≡ root) × ((store : Store) → Agrees store new → IsFull (laid old store) root))

-- What a change of a pair that is Ok has read and written.
pub record ChangeFootprint (root : ℕ) (key : List ℕ) (old new : Seen) : Type 0 where
  -- the path to the key is whole
  pub whole : IsWholePath root key old new
  -- what was newly read lies on it, or is the neighbour of a node on it
  pub near : ReadsNear root key old new
  -- the tree's own addresses alone were changed
  pub own : ChangesOwn root old new
  -- few of those that were changed are filled still
  pub few : ChangesAtMost CHANGED_BLOCKS old new
  -- at most one splice was made, of at most an entry's bytes
  pub once : SplicesOnce ENTRY_BYTES old new

-- Why a change of a pair failed, and what stands then.
pub record ChangeFailure (root : ℕ) (key : List ℕ) (old new : Seen)
    (fault : TreeFault) : Type 0 where
  -- a fault of the space, the first break on the path, a neighbour that breaks, or a tree that
  -- can't grow
  pub blames : IsChangeFault root key old new fault
  -- on fewer than 2^25 filled addresses a well-formed tree can always grow
  pub never_full : (store : Store) (content : Values) → Meets store root old new content
      → FillsFewer (laid old store) (2 ^ 25) → IsOfSpace fault
  -- nothing was changed, but where memory ran out
  pub unchanged : IsUnchanged old new fault

-- What a call that dropped a tree has read and written.
pub record DropFootprint (root : ℕ) (old new : Seen) : Type 0 where
  -- the tree was well formed
  pub whole : (store : Store) → Agrees store new → IsTree (laid old store) root
  -- what was newly read is its root or a node
  pub within : ReadsTree root old new
  -- its nodes alone were changed
  pub own : DropsOwn root old new

-- Why it failed, and what stands then.
pub record DropFailure (root : ℕ) (old new : Seen) (fault : TreeFault) : Type 0 where
  -- a fault of the space, or the first break of a walk
  pub blames : IsWalkFault root old new fault
  -- nothing was changed, but where memory ran out
  pub unchanged : IsUnchanged old new fault
