-- Trees of physical nodes in an image: which keep their rules, what they hold, where paths lead.
use Rattle.std.specs.Prelude.{◌≡◌, ◌⊎◌, ℕ, zero, suc, ◌<◌, ◌≤◌, List, [], ◌∷◌, ◌++◌, map, length}
use Rattle.std.specs.Prelude.{Some}
use Rattle.std.specs.List.{AllByRecursion, flat_map}
use Rattle.std.specs.Ordering.{nat_cmp}
use Rattle.std.specs.FinMap as finmap
use Rattle.std.specs.FinMap.Entries.{find}
use Rattle.sea_base.specs.declared.place.PRoot.{PRoot}
use Rattle.sea_base.specs.declared.place.Slot.{Slot}
use Rattle.sea_ptree.specs.declared.kind.Kind.{Kind}
use Rattle.sea_ptree.specs.declared.link.Link.{Link}
use Rattle.sea_ptree.specs.Blocks.{Image, HasSum}
use Rattle.sea_ptree.specs.Node.{Entry, IsRising, Spells}

abbrev pub link_of : Slot → Link
link_of slot = record { at = slot.at; sum = slot.sum }

abbrev pub root_link : PRoot → Link
root_link root = record { at = root.at; sum = root.sum }

-- a node of a level stands where a link leads, with the sum that the link kept
pub record NodeAt (kind : Kind) (image : Image) (level : ℕ) (link : Link) (entries : List Entry)
    : Type 0 where
  pub sum_is : HasSum (image link.at.0) link.sum.0
  pub spells : Spells kind (image link.at.0) level entries

-- ---- paths

-- a key is below that of the next entry, if there is one
abbrev pub IsBelowNext : ℕ → List Entry → Type 0
IsBelowNext key [] = Unit {0}
IsBelowNext key (entry ∷ after) = key < entry.0

-- the last entry whose key is not above a key
pub record Guides (key : ℕ) (entries : List Entry) (entry : Entry) : Type 0 where
  pub before : List Entry
  pub after : List Entry
  pub split : entries ≡ before ++ entry ∷ after
  pub not_above : entry.0 ≤ key
  pub next : IsBelowNext key after

-- an entry of a node, whichever
pub record Has (entries : List Entry) (entry : Entry) : Type 0 where
  pub before : List Entry
  pub after : List Entry
  pub split : entries ≡ before ++ entry ∷ after

-- A path of nodes leads from a link of a level to a leaf that has the pair, each step by the last
-- key that is not above.
abbrev pub Leads : Kind → Image → ℕ → Link → ℕ → Slot → Type 0
Leads kind image zero link key slot =
    (entries : List Entry) × NodeAt kind image 0 link entries
    × (find nat_cmp key entries ≡ Some slot)
Leads kind image (suc level) link key slot =
    (entries : List Entry) × NodeAt kind image (suc level) link entries
    × ((entry : Entry) × Guides key entries entry
    × Leads kind image level (link_of entry.1) key slot)

-- the same, from a root of a height; none leads through the empty tree
abbrev pub LeadsFrom : Kind → Image → ℕ → Link → ℕ → Slot → Type 0
LeadsFrom kind image zero link key slot = ⊥
LeadsFrom kind image (suc level) link key slot = Leads kind image level link key slot

abbrev pub LeadsTo : Kind → Image → PRoot → ℕ → Slot → Type 0
LeadsTo kind image root = LeadsFrom kind image root.height (root_link root)

-- A link of a level is reached from another one, by nodes on the way and one of their entries at
-- each step.
abbrev pub Reaches : (List Entry → Entry → Type 0) → Kind → Image → ℕ → Link → ℕ → Link → Type 0
Reaches Step kind image zero from level link = (level ≡ 0) × (link ≡ from)
Reaches Step kind image (suc top) from level link =
    ((level ≡ suc top) × (link ≡ from))
    ⊎ ((entries : List Entry) × NodeAt kind image (suc top) from entries
    × ((entry : Entry) × Step entries entry
    × Reaches Step kind image top (link_of entry.1) level link))

-- ---- what a tree holds

-- What stands below a node of a level: in a leaf its pairs, above the leaves the nodes of its
-- children, each with what stands below it.
abbrev pub Item : ℕ → Type 0
Item zero = Entry
Item (suc level) = Link × List (Item level)

-- the pairs of an item, in the order of keys
abbrev pub pairs : (level : ℕ) → Item level → List Entry
pairs zero item = item ∷ []
pairs (suc level) item = flat_map (pairs level) item.1

-- the places of its nodes, parents first
abbrev pub places : (level : ℕ) → Item level → List ℕ
places zero item = []
places (suc level) item = item.0.at.0 ∷ flat_map (places level) item.1

abbrev pub least_key : List Entry → ℕ
least_key [] = 0
least_key (entry ∷ entries) = entry.0

-- The entry that leads to an item: above the leaves its key is the least key below it.
abbrev pub entry_of : (level : ℕ) → Item level → Entry
entry_of zero item = item
entry_of (suc level) item = (
  least_key (flat_map (pairs level) item.1),
  record { at = item.0.at; version = record { 0 = 0 }; sum = item.0.sum },
)

-- The nodes of an item stand in an image, each with 37 entries at least.
abbrev pub Stands : Kind → Image → (level : ℕ) → Item level → Type 0
Stands kind image zero item = Unit {0}
Stands kind image (suc level) item =
    NodeAt kind image level item.0 (map (entry_of level) item.1) × (37 ≤ length item.1)
    × AllByRecursion (Stands kind image level) item.1

-- Items stand below the node that a link leads to, and their keys rise.
pub record Holds (kind : Kind) (image : Image) (level : ℕ) (link : Link) (items : List (Item level))
    : Type 0 where
  pub node : NodeAt kind image level link (map (entry_of level) items)
  pub stand : AllByRecursion (Stands kind image level) items
  pub rising : IsRising (flat_map (pairs level) items)

-- slots under their keys, as a finite map
abbrev pub Content : Type 0
Content = finmap.FinMap nat_cmp Slot

-- a root has one entry at least, and above the leaves two
abbrev pub least_of_root : ℕ → ℕ
least_of_root zero = 1
least_of_root (suc level) = 2

-- The tree below a root of a height keeps its rules; its pairs are those of a content, and its
-- nodes stand at these places.
abbrev pub IsTreeOf : Kind → Image → ℕ → Link → Content → List ℕ → Type 0
IsTreeOf kind image zero link content places_of =
    (link.at.0 ≡ 0) × (link.sum.0 ≡ 0) × (finmap.entries content ≡ []) × (places_of ≡ [])
IsTreeOf kind image (suc level) link content places_of =
    (items : List (Item level)) × Holds kind image level link items
    × (least_of_root level ≤ length items) × (finmap.entries content ≡ flat_map (pairs level) items)
    × (places_of ≡ link.at.0 ∷ flat_map (places level) items)

abbrev pub IsTree : Kind → Image → PRoot → Content → List ℕ → Type 0
IsTree kind image root = IsTreeOf kind image root.height (root_link root)
