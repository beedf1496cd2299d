-- Which data blocks a range of an object's bytes has to do with, by their numbers.
use Rattle.std.specs.Prelude.{◌≡◌, ◌⊎◌, ℕ, ◌+◌, ◌*◌, ◌<◌, ◌≤◌, true}
use Rattle.sea_base.specs.Space.{Seen}
use Rattle.sea_data.specs.Bytes.{block_address}

-- a byte of the block lies from one number on to before another
abbrev pub Touches : ℕ → ℕ → ℕ → Type 0
Touches from to i = (from < to) × (4096 * i < to) × (from < 4096 * (i + 1))

-- all its bytes do
abbrev pub Covers : ℕ → ℕ → ℕ → Type 0
Covers from to i = (from ≤ 4096 * i) × (4096 * (i + 1) ≤ to)

-- an object of this size is enlarged, and its old end lies within the block
abbrev pub HoldsOldEnd : ℕ → ℕ → ℕ → Type 0
HoldsOldEnd size to i = (size < to) × (4096 * i < size) × (size < 4096 * (i + 1))

-- The block is read as the range is written: it isn't written whole, and is written in part or
-- holds the old end.
abbrev pub IsReadFor : ℕ → ℕ → ℕ → ℕ → Type 0
IsReadFor size from to i = (Covers from to i → ⊥) × (Touches from to i ⊎ HoldsOldEnd size to i)

-- it is changed: it is written, or holds the old end
abbrev pub IsChangedFor : ℕ → ℕ → ℕ → ℕ → Type 0
IsChangedFor size from to i = Touches from to i ⊎ HoldsOldEnd size to i

-- it begins from one number on to before another
abbrev pub BeginsBetween : ℕ → ℕ → ℕ → Type 0
BeginsBetween from to i = (from ≤ 4096 * i) × (4096 * i < to)

-- an address is that of such a data block
abbrev pub AtBlock : ℕ → (ℕ → Type 0) → ℕ → Type 0
AtBlock base P at = (i : ℕ) × P i × (at ≡ block_address base i)

-- what was newly read are such blocks
abbrev pub ReadsBlocks : ℕ → (ℕ → Type 0) → Seen → Seen → Type 0
ReadsBlocks base P old new = (at : ℕ) → (new.reads at ≡ old.reads at) ⊎ AtBlock base P at

-- what the transaction did at an address is as it was
pub record IsAsBefore (old new : Seen) (at : ℕ) : Type 0 where
  pub changed : new.changed at ≡ old.changed at
  pub view : old.changed at ≡ true → new.view at ≡ old.view at
  pub whole : new.whole at ≡ old.whole at
  pub splices : new.splices at ≡ old.splices at

-- nothing but such blocks was changed
abbrev pub ChangesBlocks : ℕ → (ℕ → Type 0) → Seen → Seen → Type 0
ChangesBlocks base P old new = (at : ℕ) → AtBlock base P at ⊎ IsAsBefore old new at
