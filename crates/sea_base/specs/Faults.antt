-- What a fault of a space says.
use Rattle.std.specs.Prelude.{◌≡◌, ◌⊎◌, ℕ, ◌-◌, ◌^◌, ◌<◌, Bool, false, Option, Some, None}
use Rattle.sea_base.specs.declared.space.SpaceFault.{SpaceFault}
use Rattle.sea_base.specs.declared.space.SpaceFault.TheVariants.{NoMemory, DeviceFault, Damaged}

-- a count of faults rose, or stands at its last value
abbrev pub FaultsRose : ℕ → ℕ → Type 0
FaultsRose before now = (before < now) ⊎ (now ≡ 2 ^ 64 - 1)

-- The count rose where a call ended with a device fault, and stands still else. A block is damaged only over a
-- space that doesn't tell its bytes.
abbrev pub IsCause : ℕ → ℕ → Bool → Option SpaceFault → Type 0
IsCause before now tells None = now ≡ before
IsCause before now tells (Some NoMemory) = now ≡ before
IsCause before now tells (Some DeviceFault) = FaultsRose before now
IsCause before now tells (Some (Damaged block kept found)) = (now ≡ before) × (tells ≡ false)
