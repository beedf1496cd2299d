-- The form of a change of one pair: which nodes are written from the leaf up, where, and how.
use Rattle.std.specs.Prelude.{◌≡◌, ◌⊎◌, ℕ, ◌+◌, ◌≤◌, List, [], ◌∷◌, ◌++◌, reverse, true, Option, Some, None, MatchOption}
use Rattle.std.proofs.Common.{inl, inr}
use Rattle.sea_base.specs.Space.{Seen, IsKnown, OnlyRead}
use Rattle.sea_node.specs.declared.node.TheConstants.{FRONT_BYTES, ROOM_BYTES}
use Rattle.sea_node.specs.Entries.{Entry, size, edited, entries_before, entries_at, entry_put}
use Rattle.sea_node.specs.Node.{node_bytes}
use Rattle.sea_base.specs.Splice.{spliced}
use Rattle.sea_tree.specs.declared.place.TheConstants.{LEAST_BYTES}
use Rattle.sea_tree.specs.declared.edit.Edit.{Edit}
use Rattle.sea_tree.specs.declared.edit.Edit.TheVariants.{Pair, Moved}
use Rattle.sea_tree.specs.declared.path.Step.{Step}
use Rattle.sea_tree.specs.declared.path.Path.{Path}
use Rattle.sea_tree.specs.declared.plan.Plan.{Plan}
use Rattle.sea_tree.specs.declared.splice.Splice.{Splice}
use Rattle.sea_tree.specs.Does.{Change, Does, is_among}
use Rattle.sea_tree.specs.Mending.{after_edit}
use Rattle.sea_tree.specs.Changing.{IsPlanned, TouchesOwn, RootRebalanced}
use Rattle.sea_tree.specs.Plan.{plan_changes, IsWritten}
use Rattle.sea_tree.specs.Reads.{ReadsPath, ReadsNear, ReadsNothing}
use Rattle.sea_tree.specs.Rebalanced.{Rebalanced}
use Rattle.sea_tree.specs.Path.{IsKnownPath}

-- The splice of a node's pair: the entry of a key, if there is one, goes, and the one comes that is
-- to stand there.
pub record IsSpliceOf (at : ℕ) (entries : List Entry) (key : List ℕ) (value : Option (List ℕ))
    (splice : Splice) : Type 0 where
  pub here : splice.at.0 ≡ at
  pub cut : splice.delta.cut ≡ FRONT_BYTES + size (entries_before key entries)
  pub gone : splice.delta.gone ≡ size (entries_at key entries)
  pub put : splice.delta.put ≡ entry_put key value

-- A leaf keeps its place without its neighbours, and what is planned is the splice of its pair.
pub record KeepsPlace (at : ℕ) (block : List ℕ) (entries : List Entry) (key : List ℕ)
    (value : Option (List ℕ)) (plan : Plan) : Type 0 where
  pub filled : LEAST_BYTES ≤ size (edited key value entries)
  pub room : size (edited key value entries) ≤ ROOM_BYTES
  pub writes : plan.writes ≡ []
  pub splice : Splice
  pub planned : plan.splice ≡ Some splice
  pub of_pair : IsSpliceOf at entries key value splice
  pub edited_block : splice.block ≡ node_bytes 0 (edited key value entries)
  pub makes : spliced splice.delta.cut splice.delta.gone splice.delta.put block ≡ splice.block

-- How a node that keeps its place is written: by the splice of its pair, unless something is
-- written there before, which only a space that gives a filled address leads to; and whole, where a
-- separator moved.
abbrev pub IsKept : ℕ → List Entry → Edit → List Change → Option Splice → Type 0
IsKept at entries (Pair key value) before splice =
    MatchOption splice (is_among before at ≡ true) (IsSpliceOf at entries key value)
IsKept at entries (Moved from to) before splice = splice ≡ None

-- In the first case, that of a node that keeps its place, it is written so; in the others all is
-- written whole.
abbrev pub IsWrittenAs : {Fits Others : Type 0} → Fits ⊎ Others → Type 0 → Option Splice → Type 0
IsWrittenAs (inl fits) Kept splice = Kept
IsWrittenAs (inr others) Kept splice = splice ≡ None

-- A node with an edit is rebalanced below its parent, the lowest step; and so is the parent, with
-- the edit that is left to it, as far as one is. Behind the last step the root is rebalanced, for
-- which nothing is read. These are the blocks put and the gaps left then, behind those before, and
-- the splice, if there is one.
abbrev pub Rises : List Step → ℕ → ℕ → List Entry → Edit → Seen → Seen → List Change → List Change
    → Option Splice → Type 0
Rises [] level at entries edit now end before done splice =
    (added : List Change)
    × (how : RootRebalanced level at (after_edit edit entries) now end before added)
    × IsWrittenAs how (IsKept at entries edit before splice) splice
    × ReadsNothing now end × (done ≡ added ++ before)
Rises (step ∷ steps) level at entries edit now end before done splice =
    (mid : Seen) × (added : List Change) × (left : Option Edit)
    × (how : Rebalanced level at (after_edit edit entries) step now mid added left)
    × MatchOption left
    (IsWrittenAs how (IsKept at entries edit before splice) splice × (mid ≡ end)
    × (done ≡ added ++ before))
    (λ next.
    Rises steps step.node.level step.at.0 step.node.entries next mid end
    (added ++ before) done splice)

-- What is planned of a change of a pair, and what was read for it: the path to the leaf that the
-- key leads to, and neighbours of its nodes.
pub record Plans (root : ℕ) (key : List ℕ) (value : Option (List ℕ)) (old new : Seen)
    (plan : Plan) : Type 0 where
  pub read : Seen
  pub path : Path
  pub reads : OnlyRead old read
  pub on_path : ReadsPath root key old read
  pub known : IsKnownPath read root key path
  pub goes : Does [] read new
  pub near : ReadsNear root key read new
  pub rises : Rises (reverse path.steps.items) 0 path.at.0 path.leaf.entries
      (Pair key value) read new [] (plan_changes plan) plan.splice
  pub planned : IsPlanned root key value read new (plan_changes plan)
  pub own : TouchesOwn root read new (plan_changes plan)

-- What a change of a pair has read and written: the path to the leaf that the key leads to, and
-- then from there up to the root.
pub record HasForm (root : ℕ) (key : List ℕ) (value : Option (List ℕ))
    (old new : Seen) : Type 0 where
  pub read : Seen
  pub planned : Seen
  pub plan : Plan
  pub path : Path
  -- the path is read, and nothing else
  pub reads : OnlyRead old read
  pub on_path : ReadsPath root key old read
  pub known : IsKnownPath read root key path
  -- what is to be written is found
  pub plans : Does [] read planned
  pub rises : Rises (reverse path.steps.items) 0 path.at.0 path.leaf.entries
      (Pair key value) read planned [] (plan_changes plan) plan.splice
  -- and is written, and nothing read for it
  pub writes : Does (plan_changes plan) planned new
  pub written : IsWritten plan planned new
  pub unread : ReadsNothing planned new
  pub next : new.next ≡ planned.next

-- The first pair of a tree makes a leaf at its root, which is written whole.
pub record HasFirst (root : ℕ) (key value : List ℕ) (old new : Seen) : Type 0 where
  pub read : Seen
  pub reads : OnlyRead old read
  pub on_path : ReadsPath root key old read
  pub known : IsKnown read root
  pub empty : read.view root ≡ None
  pub writes : Does ((root, Some (node_bytes 0 ((key, value) ∷ []))) ∷ []) read new
  pub whole : new.splices root ≡ []
  pub unread : ReadsNothing read new
  pub next : new.next ≡ read.next
