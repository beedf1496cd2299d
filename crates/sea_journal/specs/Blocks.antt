-- The blocks of a journal's device, with what is queued laid over them.
use Rattle.std.specs.Prelude.{◌≡◌, ℕ, ◌+◌, ◌-◌, ◌*◌, ◌<◌, ◌≤◌, List, take, slice_range, Option, IfSome}
use Rattle.sea_base.specs.Digest.{sha256}
use Rattle.sea_base.specs.Faults.{FaultsRose}
use Rattle.sea_base.specs.Field.{big_endian}
use Rattle.sea_base.specs.declared.space.SpaceFault.{SpaceFault}
use Rattle.sea_base.specs.declared.space.SpaceFault.TheVariants.{NoMemory, DeviceFault, Damaged}
use Rattle.sea_device.specs.Device.{overwritten}
use Rattle.sea_trail.specs.Trail.{block_of}
use Rattle.sea_journal.specs.declared.queue.Queue.{Queue}

-- a queued record covers the block
abbrev pub IsQueued : Queue → ℕ → Type 0
IsQueued q at = (q.start.0 ≤ at) × (at < q.place.0)

abbrev pub queued_block : Queue → ℕ → List ℕ
queued_block q at = slice_range q.bytes.items (4096 * (at - q.start.0)) (4096 * (at - q.start.0 + 1))

-- the image now, with the queued records laid over it
abbrev pub image_now : Queue → List ℕ → List ℕ
image_now q image =
    overwritten (4096 * q.start.0) (take (4096 * (q.place.0 - q.start.0)) q.bytes.items) image

-- the sum is the block's
abbrev pub IsSumOf : ℕ → List ℕ → Type 0
IsSumOf sum block = big_endian 8 sum ≡ take 8 (sha256 block)

-- Why a block is not given: memory ran out; a call of the device failed; or it has another sum than the
-- one that was kept of it.
abbrev pub IsNotGiven : Queue → Option (List ℕ) → ℕ → ℕ → ℕ → ℕ → SpaceFault → Type 0
IsNotGiven q contents at sum before now NoMemory = now ≡ before
IsNotGiven q contents at sum before now DeviceFault = FaultsRose before now
IsNotGiven q contents at sum before now (Damaged block kept found) =
    (block.0 ≡ at) × (kept.0 ≡ sum) × (found.0 ≡ sum → ⊥) × (now ≡ before)
    × IfSome contents (λ image. IsSumOf found.0 (block_of (image_now q image) at))

-- and why none is read
abbrev pub IsUnread : ℕ → ℕ → SpaceFault → Type 0
IsUnread before now NoMemory = now ≡ before
IsUnread before now DeviceFault = FaultsRose before now
IsUnread before now (Damaged block kept found) = ⊥
