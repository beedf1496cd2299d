-- What is done to data blocks, one after the other.
use Rattle.std.specs.Prelude.{◌≡◌, ◌⊎◌, ℕ, zero, suc, ◌+◌, ◌-◌, ◌*◌, ◌/◌, ◌<◌, min, List, [], ◌∷◌, ◌++◌, length, drop, replicate, slice_range, Option, Some, None}
use Rattle.sea_base.specs.declared.delta.Delta.{Delta}
use Rattle.sea_base.specs.Space.{Seen, IsKnown, IsSound, ReadsAtMost, Places, Amends}
use Rattle.sea_base.specs.Splice.{spliced}
use Rattle.sea_data.specs.Bytes.{block_address}
use Rattle.sea_data.specs.Ranges.{Covers, HoldsOldEnd}

-- What is done to a block: bytes are laid over it from a place on; its bytes from a place on
-- become zeros; nothing is left.
pub data Edit : Type 0 where
  Over : ℕ → List ℕ → Edit
  Clear : ℕ → Edit
  Gone : Edit

-- at an address
abbrev pub Step : Type 0
Step = ℕ × Edit

-- Reads alone were made, of this address, and it shows this.
pub record Shows (at : ℕ) (found : Option (List ℕ)) (old new : Seen) : Type 0 where
  pub reads : ReadsAtMost at old new
  pub known : IsKnown new at
  pub view : new.view at ≡ found
  pub sound : IsSound new

-- bytes with zeros before and behind them, to 4,096 in all
abbrev pub among_zeros : ℕ → List ℕ → List ℕ
among_zeros from bytes = replicate from 0 ++ bytes ++ replicate (4096 - (from + length bytes)) 0

-- the splice that lays bytes over a block
abbrev pub laying : ℕ → List ℕ → Delta
laying from bytes = record { cut = from; gone = length bytes; put = bytes }

-- the splice that zeros a block from a place on
abbrev pub clearing : ℕ → Delta
clearing cut = record { cut = cut; gone = 4096 - cut; put = [] }

-- a block is amended by a splice
abbrev pub IsSpliced : ℕ → Delta → List ℕ → Seen → Seen → Type 0
IsSpliced at delta block old new =
    (length block ≡ 4096) × Amends at delta (spliced delta.cut delta.gone delta.put block) old new

-- bytes are laid over a block that was found, or put among zeros where there is none
abbrev pub LaysOver : ℕ → ℕ → List ℕ → Option (List ℕ) → Seen → Seen → Type 0
LaysOver at from bytes None old new = Places at (Some (among_zeros from bytes)) old new
LaysOver at from bytes (Some block) old new = IsSpliced at (laying from bytes) block old new

-- each of these bytes is zero
abbrev pub IsZero : List ℕ → Type 0
IsZero bytes = bytes ≡ replicate (length bytes) 0

-- a block that was found is zeroed from a place on, where there is one and a byte isn't zero
abbrev pub Clears : ℕ → ℕ → Option (List ℕ) → Seen → Seen → Type 0
Clears at cut None old new = new ≡ old
Clears at cut (Some block) old new =
    ((new ≡ old) × (length block ≡ 4096) × IsZero (drop cut block))
    ⊎ ((IsZero (drop cut block) → ⊥) × IsSpliced at (clearing cut) block old new)

-- An edit was made: a block written whole is put without being read, and what is written in part
-- or zeroed is read first.
abbrev pub Takes : ℕ → Edit → Seen → Seen → Type 0
Takes at (Over from bytes) old new =
    ((length bytes ≡ 4096) × Places at (Some bytes) old new)
    ⊎ ((length bytes < 4096) × (found : Option (List ℕ)) × (between : Seen)
    × Shows at found old between × LaysOver at from bytes found between new)
Takes at (Clear cut) old new =
    (found : Option (List ℕ)) × (between : Seen) × Shows at found old between
    × Clears at cut found between new
Takes at Gone old new = Places at None old new

-- Edits were made one after the other, the latest first in the list.
abbrev pub Does : List Step → Seen → Seen → Type 0
Does [] old new = new ≡ old
Does (step ∷ steps) old new =
    (between : Seen) × Does steps old between × Takes step.0 step.1 between new

-- The bytes past an old end are zeroed in its block, as a range is written, unless they are
-- written with all others of the block.
abbrev pub ClearsOldEnd : ℕ → ℕ → ℕ → ℕ → Seen → Seen → Type 0
ClearsOldEnd base size from to old new =
    ((new ≡ old) × ((i : ℕ) → HoldsOldEnd size to i → Covers from to i))
    ⊎ ((i : ℕ) × HoldsOldEnd size to i × (Covers from to i → ⊥)
    × Takes (block_address base i) (Clear (size - 4096 * i)) old new)

-- the part of bytes from an offset on that lies in a block
abbrev pub part_of : ℕ → List ℕ → ℕ → List ℕ
part_of offset bytes i =
    slice_range bytes (4096 * i - offset) (min (4096 * (i + 1) - offset) (length bytes))

-- it is laid over the block
abbrev pub part_step : ℕ → ℕ → List ℕ → ℕ → Step
part_step base offset bytes i =
    (block_address base i, Over (offset - 4096 * i) (part_of offset bytes i))

-- so many blocks from that of an offset on are written
abbrev pub part_steps : ℕ → ℕ → List ℕ → ℕ → List Step
part_steps base offset bytes zero = []
part_steps base offset bytes (suc n) =
    part_step base offset bytes (offset / 4096 + n) ∷ part_steps base offset bytes n

-- so many blocks from one on are dropped
abbrev pub drop_steps : ℕ → ℕ → ℕ → List Step
drop_steps base first zero = []
drop_steps base first (suc n) = (block_address base (first + n), Gone) ∷ drop_steps base first n
