-- Objects as a list of names and bytes.
use Rattle.std.specs.Prelude.{ℕ, List, map, Option}
use Rattle.std.specs.FinMap.{from_entries}
use Rattle.std.specs.Ordering.{nat_cmp}
use Rattle.std.specs.Cmp.Lexicographic.{slice_cmp}
use Rattle.std.specs.Map.{lookup}
use Rattle.std.specs.BTreeMap.{is_at}
use Rattle.sea_plain.specs.Objects.{ObjectMap, empty_object}

-- the objects whose names and bytes are these, of which the first of a name counts
abbrev pub objects_of : List (List ℕ × List ℕ) → ObjectMap
objects_of written = from_entries (map (λ e. (e.0, record empty_object { bytes = e.1 })) written)

-- the bytes that count
abbrev pub newest : List ℕ → List (List ℕ × List ℕ) → Option (List ℕ)
newest name written = lookup (is_at (slice_cmp nat_cmp name)) written
