-- Blocks under their places, and what a call that reads them keeps.
use Rattle.std.specs.Prelude.{◌≡◌, ◌≢◌, ℕ, ◌≤◌, ◌<◌, ◌^◌, List, take, Bool, IsTrue}
use Rattle.sea_base.specs.Digest.{sha256}
use Rattle.sea_base.specs.Field.{big_endian}
use Rattle.sea_base.specs.Faults.{FaultsRose}
use Rattle.sea_base.specs.declared.space.SpaceFault.{SpaceFault}
use Rattle.sea_base.specs.declared.space.SpaceFault.TheVariants.{NoMemory, DeviceFault, Damaged}

-- the bytes of the block at each place
abbrev pub Image : Type 0
Image = ℕ → List ℕ

-- What an object of blocks has.
pub record Held : Type 0 where
  -- the block at each place, told or not
  pub image : Image
  -- whether a block that is read is the one at its place
  pub tells : Bool
  -- how many faults of the device there were
  pub faults : ℕ

-- the sum of a block: the first 8 bytes of its SHA-256, as a number
pub record HasSum (bytes : List ℕ) (sum : ℕ) : Type 0 where
  pub fits : sum < 2 ^ 64
  pub spelled : big_endian 8 sum ≡ take 8 (sha256 bytes)

-- what is read at a place, by a sum
pub record IsBlock (held : Held) (at sum : ℕ) (bytes : List ℕ) : Type 0 where
  pub sum_is : HasSum bytes sum
  pub told : IsTrue held.tells → bytes ≡ held.image at

-- a call leaves everything but the count of faults, which doesn't fall
pub record Keeps (old new : Held) : Type 0 where
  pub image : new.image ≡ old.image
  pub tells : new.tells ≡ old.tells
  pub later : old.faults ≤ new.faults

-- a block was read, and has another sum
pub record IsDamaged (held : Held) (at kept found : ℕ) : Type 0 where
  pub differs : found ≢ kept
  pub told : IsTrue held.tells → HasSum (held.image at) found

-- why a block was not read; only a fault of the device is counted
abbrev pub IsBlockFault : Held → Held → ℕ → ℕ → SpaceFault → Type 0
IsBlockFault old new at sum NoMemory = new.faults ≡ old.faults
IsBlockFault old new at sum DeviceFault = FaultsRose old.faults new.faults
IsBlockFault old new at sum (Damaged block kept found) =
    (new.faults ≡ old.faults) × (block.0 ≡ at) × (kept.0 ≡ sum) × IsDamaged old at sum found.0
