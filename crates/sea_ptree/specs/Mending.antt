-- A node that was changed, put among its neighbours.
use Rattle.std.specs.Prelude.{◌≡◌, ◌⊎◌, ℕ, ◌+◌, ◌/◌, ◌<◌, ◌≤◌, List, [], ◌∷◌, ◌++◌, take, drop}
use Rattle.std.specs.Prelude.{length}
use Rattle.sea_base.specs.declared.place.PRoot.{PRoot}
use Rattle.sea_base.specs.declared.place.Slot.{Slot}
use Rattle.sea_ptree.specs.declared.fault.PFault.{PFault}
use Rattle.sea_ptree.specs.declared.kind.Kind.{Kind}
use Rattle.sea_ptree.specs.declared.making.Making.{Making}
use Rattle.sea_ptree.specs.Blocks.{Image, Held}
use Rattle.sea_ptree.specs.Faults.{IsNodeFault}
use Rattle.sea_ptree.specs.Making.{Took, Wrote, Onward}
use Rattle.sea_ptree.specs.Node.{Entry}
use Rattle.sea_ptree.specs.Tree.{Has, NodeAt, link_of, least_of_root}

-- an entry stands at an index
abbrev pub IsAt : List Entry → ℕ → Entry → Type 0
IsAt entries index entry = drop index entries ≡ entry ∷ drop (index + 1) entries

-- a node that an entry leads to was not read
abbrev pub IsFaultNear : Kind → Held → Held → ℕ → List Entry → PFault → Type 0
IsFaultNear kind old new level entries fault =
    (entry : Entry) × Has entries entry × IsNodeFault kind old new level (link_of entry.1) fault

-- A child has entries enough, or no neighbour.
pub record IsAlone (entries : List Entry) (index : ℕ) (below : List Entry) (old new : Making)
    (from to : ℕ) (all : List Entry) : Type 0 where
  pub from_is : from ≡ index
  pub to_is : to ≡ index + 1
  pub all_is : all ≡ below
  pub same : new ≡ old
  pub enough : (37 ≤ length below) ⊎ (length entries ≡ 1)

-- It has too few, and goes together with the one behind it.
pub record IsWithRight (kind : Kind) (image : Image) (level : ℕ) (entries : List Entry)
    (index : ℕ) (below : List Entry) (old new : Making) (from to : ℕ) (all : List Entry)
    : Type 0 where
  pub next : Entry
  pub beside : List Entry
  pub few : length below < 37
  pub from_is : from ≡ index
  pub to_is : to ≡ index + 2
  pub there : IsAt entries (index + 1) next
  pub node : NodeAt kind image level (link_of next.1) beside
  pub took : Took old new next.1.at
  pub all_is : all ≡ below ++ beside

-- It is the last, has too few, and goes together with the one before it.
pub record IsWithLeft (kind : Kind) (image : Image) (level : ℕ) (entries : List Entry)
    (index : ℕ) (below : List Entry) (old new : Making) (from to : ℕ) (all : List Entry)
    : Type 0 where
  pub previous : Entry
  pub beside : List Entry
  pub few : length below < 37
  pub last : index + 1 ≡ length entries
  pub from_is : from + 1 ≡ index
  pub to_is : to ≡ index + 1
  pub there : IsAt entries from previous
  pub node : NodeAt kind image level (link_of previous.1) beside
  pub took : Took old new previous.1.at
  pub all_is : all ≡ beside ++ below

abbrev pub Gathered : Kind → Image → ℕ → List Entry → ℕ → List Entry → Making → Making → ℕ → ℕ
    → List Entry → Type 0
Gathered kind image level entries index below old new from to all =
    IsAlone entries index below old new from to all
    ⊎ (IsWithRight kind image level entries index below old new from to all
    ⊎ IsWithLeft kind image level entries index below old new from to all)

-- ---- fresh nodes with some entries

pub record WroteNone (old new : Making) (entries parts : List Entry) : Type 0 where
  pub none : entries ≡ []
  pub parts_are : parts ≡ []
  pub same : new ≡ old

pub record WroteOne (old new : Making) (level : ℕ) (entries parts : List Entry) : Type 0 where
  pub entry : Entry
  pub some : 1 ≤ length entries
  pub room : length entries ≤ 145
  pub parts_are : parts ≡ entry ∷ []
  pub wrote : Wrote old new level entries entry

-- two halves, the smaller one first
pub record WroteTwo (old new : Making) (level : ℕ) (entries parts : List Entry) : Type 0 where
  pub first : Entry
  pub second : Entry
  pub mid : Making
  pub many : 145 < length entries
  pub parts_are : parts ≡ first ∷ second ∷ []
  pub front : Wrote old mid level (take (length entries / 2) entries) first
  pub back : Wrote mid new level (drop (length entries / 2) entries) second

abbrev pub WroteParts : Making → Making → ℕ → List Entry → List Entry → Type 0
WroteParts old new level entries parts =
    WroteNone old new entries parts
    ⊎ (WroteOne old new level entries parts ⊎ WroteTwo old new level entries parts)

-- ---- what becomes of the node above

pub record IsSettled (kind : Kind) (image : Image) (level : ℕ) (entries : List Entry) (index : ℕ)
    (below : List Entry) (old new : Making) (made : List Entry) : Type 0 where
  pub from : ℕ
  pub to : ℕ
  pub all : List Entry
  pub parts : List Entry
  pub mid : Making
  pub gathered : Gathered kind image level entries index below old mid from to all
  pub room : length all ≤ 209
  pub written : WroteParts mid new level all parts
  pub made_is : made ≡ take from entries ++ (parts ++ drop to entries)
  pub onward : Onward old new

-- ---- the root

abbrev pub root_of : Slot → ℕ → PRoot
root_of slot height = record { at = slot.at; height = height; sum = slot.sum }

pub record RootNone (old new : Making) (entries : List Entry) (root : PRoot) : Type 0 where
  pub none : entries ≡ []
  pub root_is : root ≡ record { at = record { 0 = 0 }; height = 0; sum = record { 0 = 0 } }
  pub same : new ≡ old

-- one child alone is the root
pub record RootChild (old new : Making) (level : ℕ) (entries : List Entry) (root : PRoot)
    : Type 0 where
  pub only : Entry
  pub above : 1 ≤ level
  pub one : entries ≡ only ∷ []
  pub root_is : root ≡ root_of only.1 level
  pub same : new ≡ old

pub record RootWritten (old new : Making) (level : ℕ) (entries : List Entry) (root : PRoot)
    : Type 0 where
  pub entry : Entry
  pub some : 1 ≤ length entries
  pub least : least_of_root level ≤ length entries
  pub room : length entries ≤ 145
  pub wrote : Wrote old new level entries entry
  pub root_is : root ≡ root_of entry.1 (level + 1)

-- a root over two halves
pub record RootSplit (old new : Making) (level : ℕ) (entries : List Entry) (root : PRoot)
    : Type 0 where
  pub parts : List Entry
  pub entry : Entry
  pub mid : Making
  pub low : level ≤ 6
  pub many : 145 < length entries
  pub halves : WroteParts old mid level entries parts
  pub wrote : Wrote mid new (level + 1) parts entry
  pub root_is : root ≡ root_of entry.1 (level + 2)

abbrev pub SettlesRoot : Making → Making → ℕ → List Entry → PRoot → Type 0
SettlesRoot old new level entries root =
    RootNone old new entries root
    ⊎ (RootChild old new level entries root
    ⊎ (RootWritten old new level entries root ⊎ RootSplit old new level entries root))
