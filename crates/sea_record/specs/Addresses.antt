-- Lists of logical addresses, as numbers.
use Rattle.std.specs.Prelude.{◌≡◌, ℕ, ◌<◌, ◌≤◌, List, length, slice_index}
use Rattle.std.specs.List.{All}

-- of two, the later is greater
abbrev pub IsRising : List ℕ → Type 0
IsRising xs = (i j : ℕ) → i < j → j < length xs → slice_index xs i < slice_index xs j

-- of two, the later is not less
abbrev pub NeverFalls : List ℕ → Type 0
NeverFalls xs = (i j : ℕ) → i < j → j < length xs → slice_index xs i ≤ slice_index xs j

-- no address of one is in the other
abbrev pub IsApart : List ℕ → List ℕ → Type 0
IsApart xs ys = (i j : ℕ) → i < length xs → j < length ys → slice_index xs i ≡ slice_index ys j → ⊥

-- each is at least 1 and below the next address
abbrev pub IsGiven : ℕ → List ℕ → Type 0
IsGiven next xs = All (λ a. (1 ≤ a) × (a < next)) xs

-- The addresses of three lists, placed, dropped and changed: they rise, those of changes without
-- falling, they were given, and none is in two of the lists.
pub record AreOrdered (next : ℕ) (placed dropped changed : List ℕ) : Type 0 where
  pub rise : IsRising placed × IsRising dropped × NeverFalls changed
  pub given : IsGiven next placed × IsGiven next dropped × IsGiven next changed
  pub apart : IsApart placed dropped × IsApart placed changed × IsApart dropped changed
