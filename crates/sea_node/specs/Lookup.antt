-- What a look-up of a key in a node tells.
use Rattle.std.specs.Prelude.{◌≡◌, ℕ, ◌+◌, ◌≤◌, List, [], ◌∷◌, ◌++◌, length, drop, Option, Some, None}
use Rattle.std.specs.List.{AllByRecursion}
use Rattle.sea_node.specs.declared.lookup.Lookup.{Lookup}
use Rattle.sea_node.specs.declared.lookup.Passed.{Passed}
use Rattle.sea_node.specs.declared.reading.Span.{Span}
use Rattle.sea_node.specs.Entries.{Entry, IsBelow, IsNotAbove, IsRising, size, entries_bytes}
use Rattle.sea_node.specs.Reading.{IsEntry, AreEntries, BeginsWithEntry, IsSpan, SpansAt, key_in, entry_in}

-- the key of the first of some entries, if there is one
abbrev pub front_key : List Entry → Option (List ℕ)
front_key [] = None
front_key (entry ∷ entries) = Some entry.0

-- the key of the last of some entries, if there is one
abbrev pub EndsAt : List Entry → Option (List ℕ) → Type 0
EndsAt entries None = entries ≡ []
EndsAt entries (Some last) =
    (before : List Entry) × (value : List ℕ) × (entries ≡ before ++ (last, value) ∷ [])

-- each key of some entries is above this one
abbrev pub AreAbove : List ℕ → List Entry → Type 0
AreAbove key entries = AllByRecursion (λ e. IsBelow key e.0) entries

-- The last of some entries whose key is not above this one, if there is one, and the first key
-- above it, if there is one.
abbrev pub Finds : List ℕ → List Entry → Option Entry → Option (List ℕ) → Type 0
Finds key entries None next = AreAbove key entries × (next ≡ front_key entries)
Finds key entries (Some entry) next =
    (before : List Entry) × (after : List Entry) × (entries ≡ before ++ entry ∷ after)
    × IsNotAbove entry.0 key × AreAbove key after × (next ≡ front_key after)

-- what the entries of a node tell of a key
pub record Tells (key : List ℕ) (entries : List Entry) (lookup : Lookup) : Type 0 where
  pub size_is : lookup.size ≡ size entries
  pub first_is : Some lookup.first ≡ front_key entries
  pub last_is : EndsAt entries (Some lookup.last)
  pub finds : Finds key entries lookup.found lookup.next

-- the key and the entry where a span says, if there is one
abbrev pub keyed : List ℕ → Option Span → Option (List ℕ)
keyed bytes None = None
keyed bytes (Some span) = Some (key_in bytes span)

abbrev pub entered : List ℕ → Option Span → Option Entry
entered bytes None = None
entered bytes (Some span) = Some (entry_in bytes span)

-- an entry stands where a span says, if there is one
abbrev pub IsSpanIf : List ℕ → Option Span → Type 0
IsSpanIf bytes None = Unit {0}
IsSpanIf bytes (Some span) = IsSpan bytes span

-- where entries stand that tell of a key
pub record HasSpans (bytes : List ℕ) (passed : Passed) : Type 0 where
  pub front : 32 ≤ passed.last.end
  pub first_is : IsSpan bytes passed.first
  pub last_is : IsSpan bytes passed.last
  pub found_is : IsSpanIf bytes passed.found
  pub next_is : IsSpanIf bytes passed.next

-- The same as what is found, by where it stands: with where the entry ends that is found.
abbrev pub FindsAt : List ℕ → List ℕ → List Entry → Option Span → Option Span → Type 0
FindsAt bytes key entries None next =
    AreAbove key entries × (keyed bytes next ≡ front_key entries)
FindsAt bytes key entries (Some found) next =
    (before : List Entry) × (after : List Entry)
    × (entries ≡ before ++ entry_in bytes found ∷ after)
    × (found.end ≡ 32 + size (before ++ entry_in bytes found ∷ []))
    × IsNotAbove (key_in bytes found) key × AreAbove key after
    × (keyed bytes next ≡ front_key after)

-- what some entries of a node tell of a key
pub record Passes (bytes : List ℕ) (key : List ℕ) (entries : List Entry)
    (passed : Passed) : Type 0 where
  pub end_is : passed.last.end ≡ 32 + size entries
  pub first_is : Some (key_in bytes passed.first) ≡ front_key entries
  pub last_is : EndsAt entries (Some (key_in bytes passed.last))
  pub finds : FindsAt bytes key entries passed.found passed.next

-- the value of an entry may stand in a node of a level
abbrev pub HasValueOf : ℕ → Entry → Type 0
HasValueOf level entry = 1 ≤ level → length entry.1 ≡ 8

-- The first entries that a block has behind its first bytes, up to a place, may stand in a node of a
-- level.
pub record IsBegun (bytes : List ℕ) (level : ℕ) (end : ℕ) (entries : List Entry) : Type 0 where
  pub all : AllByRecursion IsEntry entries
  pub values : AllByRecursion (HasValueOf level) entries
  pub rising : IsRising entries
  pub read : drop 32 bytes ≡ entries_bytes entries ++ drop end bytes

-- the entries that a block has behind its first bytes may stand in a node of a level
pub record IsRead (bytes : List ℕ) (level : ℕ) (entries : List Entry) : Type 0 where
  pub read : AreEntries (drop 32 bytes) entries
  pub values : AllByRecursion (HasValueOf level) entries
  pub rising : IsRising entries

-- an entry of a node of a level stands at a place where a span says
abbrev pub HasEntry : List ℕ → ℕ → ℕ → Span → Type 0
HasEntry bytes level at span = SpansAt bytes at span × HasValueOf level (entry_in bytes span)

abbrev pub HasNoEntry : List ℕ → ℕ → ℕ → Type 0
HasNoEntry bytes level at =
    (entry : Entry) (rest : List ℕ) → BeginsWithEntry (drop at bytes) entry rest
    → HasValueOf level entry → ⊥

-- an entry goes on where another ends, and its key is above that one's
abbrev pub GoesOn : List ℕ → ℕ → Span → Span → Type 0
GoesOn bytes level last span =
    HasEntry bytes level last.end span × IsBelow (key_in bytes last) (key_in bytes span)

abbrev pub GoesOnNoMore : List ℕ → ℕ → Span → Type 0
GoesOnNoMore bytes level last =
    (entry : Entry) (rest : List ℕ) → BeginsWithEntry (drop last.end bytes) entry rest
    → HasValueOf level entry → IsBelow (key_in bytes last) entry.0 → ⊥

-- there are entries enough for a node of a level
abbrev pub IsEnough : ℕ → List Entry → Type 0
IsEnough level entries = (1 ≤ length entries) × (1 ≤ level → 2 ≤ length entries)
