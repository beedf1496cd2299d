-- What the parts of a node that are read stand for.
use Rattle.std.specs.Prelude.{◌≡◌, ℕ, ◌-◌, ◌≤◌, slice_range, List, [], ◌∷◌, ◌++◌, length, drop, replicate, codes}
use Rattle.std.specs.List.{AllByRecursion}
use Rattle.sea_base.specs.Name.{IsName}
use Rattle.sea_node.specs.declared.reading.Span.{Span}
use Rattle.sea_node.specs.Entries.{Entry, size, entry_bytes, entries_bytes}
use Rattle.sea_base.specs.declared.block.TheConstants.{BLOCK_BYTES}
use Rattle.sea_node.specs.declared.node.TheConstants.{FRONT_BYTES}
use Rattle.sea_node.specs.declared.reading.TheConstants.{VALUE_BYTES}

-- what may be an entry, at some level
abbrev pub IsEntry : Entry → Type 0
IsEntry e = IsName e.0 × (length e.1 ≤ VALUE_BYTES)

-- the first 32 bytes of a node: the word, the level, and zeros
unfoldable pub front_bytes : ℕ → List ℕ
front_bytes level = codes "SNOD" ++ level ∷ [] ++ replicate 27 0

-- the bytes begin as a node of this level does
abbrev pub BeginsAtLevel : List ℕ → ℕ → Type 0
BeginsAtLevel bytes level = (level ≤ 7) × (bytes ≡ front_bytes level ++ drop FRONT_BYTES bytes)

abbrev pub BeginsAtNoLevel : List ℕ → Type 0
BeginsAtNoLevel bytes =
    (level : ℕ) (rest : List ℕ) → level ≤ 7 → bytes ≡ front_bytes level ++ rest → ⊥

-- the bytes are this entry's and the rest
abbrev pub BeginsWithEntry : List ℕ → Entry → List ℕ → Type 0
BeginsWithEntry bytes entry rest = IsEntry entry × (bytes ≡ entry_bytes entry ++ rest)

abbrev pub BeginsWithNoEntry : List ℕ → Type 0
BeginsWithNoEntry bytes = (entry : Entry) (rest : List ℕ) → BeginsWithEntry bytes entry rest → ⊥

-- the bytes from a place on are this entry's, up to another place in the block
abbrev pub StandsAt : List ℕ → ℕ → Entry → ℕ → Type 0
StandsAt bytes at entry end =
    (end ≤ BLOCK_BYTES) × BeginsWithEntry (drop at bytes) entry (drop end bytes)

-- the key and the entry whose parts stand where a span says
abbrev pub key_in : List ℕ → Span → List ℕ
key_in bytes span = slice_range bytes span.key_at span.value_at

abbrev pub entry_in : List ℕ → Span → Entry
entry_in bytes span = (key_in bytes span, slice_range bytes span.value_at span.end)

-- an entry stands where a span says
pub record IsSpan (bytes : List ℕ) (span : Span) : Type 0 where
  pub key_first : span.key_at ≤ span.value_at
  pub value_then : span.value_at ≤ span.end
  pub within : span.end ≤ BLOCK_BYTES
  pub entry : IsEntry (entry_in bytes span)

-- the entry at a place stands where a span says
abbrev pub SpansAt : List ℕ → ℕ → Span → Type 0
SpansAt bytes at span = IsSpan bytes span × StandsAt bytes at (entry_in bytes span) span.end

-- the bytes are those of these entries, and zeros
abbrev pub AreEntries : List ℕ → List Entry → Type 0
AreEntries bytes entries =
    AllByRecursion IsEntry entries
    × (bytes ≡ entries_bytes entries ++ replicate (length bytes - size entries) 0)

abbrev pub AreNoEntries : List ℕ → Type 0
AreNoEntries bytes = (entries : List Entry) → AreEntries bytes entries → ⊥
