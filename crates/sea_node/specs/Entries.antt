-- Keys with their values, in the order of the keys' bytes.
use Rattle.std.specs.Prelude.{◌≡◌, ◌≢◌, ℕ, ◌+◌, List, [], ◌++◌, length, sum_by, not, Option, Some, None, IsTrue}
use Rattle.std.specs.List.{flat_map}
use Rattle.std.specs.Ordering.{nat_cmp, eq_by_cmp, is_lt}
use Rattle.std.specs.declared.cmp.Ordering.{Ordering}
use Rattle.std.specs.declared.cmp.Ordering.TheVariants.{Less, Greater}
use Rattle.std.specs.Cmp.Lexicographic.{slice_cmp}
use Rattle.std.specs.FinMap as map
use Rattle.std.specs.FinMap.Entries.{put, where_key, is_sorted}
use Rattle.sea_base.specs.Field.{big_endian}

-- a key and its value
abbrev pub Entry : Type 0
Entry = List ℕ × List ℕ

-- the order of keys: by their bytes as unsigned numbers, and a proper prefix comes first
abbrev pub key_order : List ℕ → List ℕ → Ordering
key_order = slice_cmp nat_cmp

abbrev pub IsBelow : List ℕ → List ℕ → Type 0
IsBelow a b = key_order a b ≡ Less

abbrev pub IsNotAbove : List ℕ → List ℕ → Type 0
IsNotAbove a b = key_order a b ≢ Greater

-- values under their keys, as a finite map
abbrev pub Values : Type 0
Values = map.FinMap key_order (List ℕ)

-- the keys rise strictly
abbrev pub IsRising : List Entry → Type 0
IsRising entries = IsTrue (is_sorted key_order entries)

-- the bytes that an entry takes: the length of the key, the length of the value, the key, the value
abbrev pub entry_size : Entry → ℕ
entry_size entry = 3 + length entry.0 + length entry.1

abbrev pub size : List Entry → ℕ
size entries = sum_by entry_size entries

abbrev pub entry_bytes : Entry → List ℕ
entry_bytes entry =
    big_endian 1 (length entry.0) ++ big_endian 2 (length entry.1) ++ entry.0 ++ entry.1

abbrev pub entries_bytes : List Entry → List ℕ
entries_bytes entries = flat_map entry_bytes entries

-- the entries with this value at a key, or without the key
abbrev pub edited : List ℕ → Option (List ℕ) → List Entry → List Entry
edited key (Some value) entries = put key_order key value entries
edited key None entries = where_key key_order (λ k. not (eq_by_cmp key_order key k)) entries

-- the entries before a key, and those at it: one or none
abbrev pub entries_before : List ℕ → List Entry → List Entry
entries_before key entries = where_key key_order (λ k. is_lt (key_order k key)) entries

abbrev pub entries_at : List ℕ → List Entry → List Entry
entries_at key entries = where_key key_order (λ k. eq_by_cmp key_order key k) entries

-- the bytes of the entry that comes in, if one does
abbrev pub entry_put : List ℕ → Option (List ℕ) → List ℕ
entry_put key (Some value) = entry_bytes (key, value)
entry_put key None = []
