-- A run merged into a tree.
use Rattle.std.specs.Prelude.{◌≡◌, ℕ, zero, suc, ◌-◌, ◌≤◌, length, List, [], ◌∷◌, Option, Some}
use Rattle.std.specs.Prelude.{None}
use Rattle.std.specs.List.{AllByRecursion, flat_map}
use Rattle.sea_base.specs.declared.place.PRoot.{PRoot}
use Rattle.sea_base.specs.declared.place.Slot.{Slot}
use Rattle.sea_ptree.specs.declared.kind.Kind.{Kind}
use Rattle.sea_ptree.specs.declared.link.Link.{Link}
use Rattle.sea_ptree.specs.declared.making.Fresh.{Fresh}
use Rattle.sea_ptree.specs.declared.making.Making.{Making}
use Rattle.sea_ptree.specs.Blocks.{Image}
use Rattle.sea_ptree.specs.Fresh.{HasBlocks, AgreeAt, Renewed}
use Rattle.sea_ptree.specs.Laying.{pairs_laid_over}
use Rattle.sea_ptree.specs.Making.{Took, Starts, IsMade}
use Rattle.sea_ptree.specs.Mending.{IsAt, IsSettled, SettlesRoot}
use Rattle.sea_ptree.specs.Node.{Entry, MayStand}
use Rattle.sea_ptree.specs.Rebuilding.{Rebuilt}
use Rattle.sea_ptree.specs.Run.{Update, laid_over}
use Rattle.sea_ptree.specs.Tree.{Item, pairs, places, Holds, NodeAt, Content, IsTree, least_of_root}
use Rattle.sea_ptree.specs.Tree.{link_of, root_link}
use Rattle.sea_ptree.specs.View.{Parts}

abbrev pub first_key : List Update → ℕ
first_key [] = 0
first_key (update ∷ run) = update.0

-- a key leads to the entry at an index: the last one whose key is not above it, or the first
pub record Towards (key : ℕ) (entries : List Entry) (index : ℕ) : Type 0 where
  pub count : ℕ
  pub index_is : index ≡ count - 1
  pub parts : Parts key entries count

-- All keys of a run lead to one leaf. A run without keys leads where the key 0 does.
abbrev pub LeadToOne : Kind → Image → ℕ → Link → List Update → Type 0
LeadToOne kind image zero link run = Unit {0}
LeadToOne kind image (suc level) link run =
    (entries : List Entry) × NodeAt kind image (suc level) link entries
    × ((index : ℕ) × (entry : Entry) × IsAt entries index entry
    × Towards (first_key run) entries index × AllByRecursion (λ u. Towards u.0 entries index) run
    × LeadToOne kind image level (link_of entry.1) run)

abbrev pub LeadToOneFrom : Kind → Image → ℕ → Link → List Update → Type 0
LeadToOneFrom kind image zero link run = Unit {0}
LeadToOneFrom kind image (suc level) link run = LeadToOne kind image level link run

-- a leaf may have the slots of a run
abbrev pub UpdateMayStand : Kind → Option Slot → Type 0
UpdateMayStand kind (Some slot) = MayStand kind 0 slot
UpdateMayStand kind None = Unit {0}

abbrev pub RunMayStand : Kind → List Update → Type 0
RunMayStand kind run = AllByRecursion (λ u. UpdateMayStand kind u.1) run

-- What `merge` makes of a tree: in every image that has the fresh nodes from a place on, and the
-- old ones where they were, the tree under the new root has the old content with the run laid over
-- it.
abbrev pub Merges : Kind → Image → PRoot → ℕ → List Update → Fresh → Type 0
Merges kind old root place run fresh =
    (content : Content) (places_of : List ℕ) → IsTree kind old root content places_of
    → LeadToOneFrom kind old root.height (root_link root) run → RunMayStand kind run
    → (new : Image) → AgreeAt old new places_of → HasBlocks new place fresh.nodes
    → Renewed kind new fresh place (laid_over run content) places_of

-- the same below a link
abbrev pub MergesBelow : Kind → Image → ℕ → Link → List Update → Making → Making → List Entry
    → Type 0
MergesBelow kind old level link run before after entries =
    (items : List (Item level)) → Holds kind old level link items
    → least_of_root level ≤ length items → LeadToOne kind old level link run → RunMayStand kind run
    → (new : Image) → AgreeAt old new (flat_map (places level) items)
    → HasBlocks new before.place after.nodes.items
    → Rebuilt kind new level entries (pairs_laid_over run (flat_map (pairs level) items)) before
    after (link.at.0 ∷ flat_map (places level) items)

-- ---- which nodes are read and written, in every tree

-- A leaf that is read goes, and its pairs with the run laid over them are to be written.
pub record LaysLeaf (kind : Kind) (image : Image) (run : List Update) (link : Link)
    (old new : Making) (made : List Entry) : Type 0 where
  pub entries : List Entry
  pub node : NodeAt kind image 0 link entries
  pub took : Took old new link.at
  pub made_is : made ≡ pairs_laid_over run entries

-- A node above the leaves that is read goes; the child that a key leads to is changed, and then put
-- among its neighbours.
pub record LaysChild (Below : Link → Making → Making → List Entry → Type 0) (kind : Kind)
    (image : Image) (key level : ℕ) (link : Link) (old new : Making) (made : List Entry)
    : Type 0 where
  pub entries : List Entry
  pub index : ℕ
  pub entry : Entry
  pub below : List Entry
  pub gone : Making
  pub changed : Making
  pub node : NodeAt kind image (suc level) link entries
  pub took : Took old gone link.at
  pub there : IsAt entries index entry
  pub toward : Towards key entries index
  pub child : Below (link_of entry.1) gone changed below
  pub settled : IsSettled kind image level entries index below changed new made

abbrev pub LaysBelow : Kind → Image → List Update → ℕ → Link → Making → Making → List Entry → Type 0
LaysBelow kind image run zero link old new made = LaysLeaf kind image run link old new made
LaysBelow kind image run (suc level) link old new made =
    LaysChild (λ child before after es. LaysBelow kind image run level child before after es)
    kind image (first_key run) level link old new made

-- the same from a root of a height; over the empty tree the run's pairs alone are to be written
abbrev pub LaysFrom : Kind → Image → List Update → ℕ → Link → Making → Making → List Entry → Type 0
LaysFrom kind image run zero link old new made = (new ≡ old) × (made ≡ pairs_laid_over run [])
LaysFrom kind image run (suc level) link old new made =
    LaysBelow kind image run level link old new made

-- What `merge` reads and writes: each node that it reads is whole and goes, from the root down to
-- the leaf and then the neighbours upwards; the fresh ones are written from the leaf upwards, the
-- root last.
pub record Lays (kind : Kind) (image : Image) (root : PRoot) (place : ℕ) (run : List Update)
    (fresh : Fresh) : Type 0 where
  pub start : Making
  pub changed : Making
  pub end : Making
  pub made : List Entry
  pub starts : Starts kind place start
  pub below : LaysFrom kind image run root.height (root_link root) start changed made
  pub settled : SettlesRoot changed end (root.height - 1) made fresh.root
  pub is_made : IsMade end fresh.root fresh

-- how much `merge` makes
pub record IsFewOf (fresh : Fresh) : Type 0 where
  pub few : length fresh.nodes ≤ 17
  pub height : fresh.root.height ≤ 8
