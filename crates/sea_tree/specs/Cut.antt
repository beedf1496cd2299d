-- Where a list of entries is cut in two.
use Rattle.std.specs.Prelude.{ℕ, ◌+◌, ◌-◌, ◌<◌, ◌≤◌, List, length, take, drop}
use Rattle.sea_node.specs.Entries.{Entry, size}

-- how far two numbers are apart
abbrev pub gap : ℕ → ℕ → ℕ
gap a b = (a - b) + (b - a)

-- how much the two parts differ, cut behind so many entries
abbrev pub difference : List Entry → ℕ → ℕ
difference entries k = gap (size (take k entries)) (size (drop k entries))

-- The parts differ least, and this is the first such cut.
pub record IsCut (entries : List Entry) (k : ℕ) : Type 0 where
  pub some : 0 < k
  pub rest : k < length entries
  pub least : (j : ℕ) → 0 < j → j < length entries → difference entries k ≤ difference entries j
  pub first : (j : ℕ) → 0 < j → j < k → difference entries k < difference entries j
