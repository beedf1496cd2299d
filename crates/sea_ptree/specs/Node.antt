-- Physical nodes, and how a block spells one.
use Rattle.std.specs.Prelude.{◌≡◌, ℕ, zero, suc, ◌-◌, ◌*◌, ◌<◌, ◌≤◌, ◌^◌, List, [], ◌∷◌, ◌++◌}
use Rattle.std.specs.Prelude.{length, replicate, codes, IsTrue}
use Rattle.std.specs.List.{AllByRecursion, flat_map}
use Rattle.std.specs.Ordering.{nat_cmp}
use Rattle.std.specs.FinMap.Entries.{is_sorted}
use Rattle.sea_base.specs.Field.{big_endian}
use Rattle.sea_base.specs.declared.place.Slot.{Slot}
use Rattle.sea_ptree.specs.declared.kind.Kind.{Kind}
use Rattle.sea_ptree.specs.declared.kind.Kind.TheVariants.{Mapping, Owners}

-- a key with its slot
abbrev pub Entry : Type 0
Entry = ℕ × Slot

-- the word of a tree
abbrev pub word : Kind → List ℕ
word Mapping = codes "SLBA"
word Owners = codes "SOWN"

-- The fields of a slot, in a node of a level. Above the leaves it is the place and the sum of a
-- child. In a leaf of owners its version is the owner's address.
abbrev pub MayStand : Kind → ℕ → Slot → Type 0
MayStand kind (suc level) slot = slot.version.0 ≡ 0
MayStand Mapping zero slot = Unit {0}
MayStand Owners zero slot = (slot.at.0 ≡ 0) × (slot.sum.0 ≡ 0)

-- the numbers of an entry fit their fields
pub record Fits (entry : Entry) : Type 0 where
  pub key : entry.0 < 2 ^ 64
  pub at : entry.1.at.0 < 2 ^ 32
  pub version : entry.1.version.0 < 2 ^ 64
  pub sum : entry.1.sum.0 < 2 ^ 64

-- the keys rise strictly
abbrev pub IsRising : List Entry → Type 0
IsRising entries = IsTrue (is_sorted nat_cmp entries)

-- What may be a node of a level.
pub record IsNode (kind : Kind) (level : ℕ) (entries : List Entry) : Type 0 where
  pub level_fits : level ≤ 7
  pub some : 1 ≤ length entries
  pub room : length entries ≤ 145
  pub rising : IsRising entries
  pub fits : AllByRecursion Fits entries
  pub slots : AllByRecursion (λ e. MayStand kind level e.1) entries

abbrev pub entry_bytes : Entry → List ℕ
entry_bytes entry =
    big_endian 8 entry.0 ++ big_endian 4 entry.1.at.0 ++ big_endian 8 entry.1.version.0
    ++ big_endian 8 entry.1.sum.0

abbrev pub entries_bytes : List Entry → List ℕ
entries_bytes entries = flat_map entry_bytes entries

-- the word, the level, a zero, the number of entries, and zeros up to byte 32
unfoldable pub front_bytes : Kind → ℕ → ℕ → List ℕ
front_bytes kind level count = word kind ++ level ∷ 0 ∷ [] ++ big_endian 2 count ++ replicate 24 0

-- the front, the entries of 28 bytes each, and zeros
unfoldable pub node_bytes : Kind → ℕ → List Entry → List ℕ
node_bytes kind level entries =
    front_bytes kind level (length entries) ++ entries_bytes entries
    ++ replicate (4064 - 28 * length entries) 0

-- the bytes of a block spell this node
pub record Spells (kind : Kind) (bytes : List ℕ) (level : ℕ) (entries : List Entry) : Type 0 where
  pub node : IsNode kind level entries
  pub spelled : bytes ≡ node_bytes kind level entries
