-- A device at each moment, by what was done to it before. Moment k is the one after the first k changes.
use Rattle.std.specs.Prelude.{◌≡◌, ℕ, zero, suc, ◌+◌, ◌*◌, ◌≤◌, ◌⊎◌, List, length}
use Rattle.sea_device.specs.Device.{overwritten, Torn}

-- what a write or a sync did
pub data Change : Type 0 where
  Wrote : ℕ → List ℕ → Change
  Synced : Change

-- the bytes after a change
abbrev pub bytes_after : Change → List ℕ → List ℕ
bytes_after (Wrote at bytes) old = overwritten at bytes old
bytes_after Synced old = old

-- what a sync left last
abbrev pub stable_after : Change → List ℕ → List ℕ → List ℕ
stable_after (Wrote at bytes) old stable = stable
stable_after Synced old stable = old

-- what a crash may leave after a change
abbrev pub MayLeaveAfter : Change → List ℕ → (List ℕ → Type 0) → List ℕ → Type 0
MayLeaveAfter (Wrote at bytes) old may_leave c =
    (d : List ℕ) × may_leave d × Torn at (length bytes) d c
MayLeaveAfter Synced old may_leave c = c ≡ old

-- a block was written by a change, or before it and not synced by it
abbrev pub IsUnsyncedAfter : ℕ → Change → Type 0 → Type 0
IsUnsyncedAfter block (Wrote at bytes) before =
    ((at ≤ 4096 * block) × (4096 * block + 4096 ≤ at + length bytes)) ⊎ before
IsUnsyncedAfter block Synced before = ⊥

-- the bytes at a moment
abbrev pub bytes_at : List ℕ → (ℕ → Change) → ℕ → List ℕ
bytes_at start history zero = start
bytes_at start history (suc k) = bytes_after (history k) (bytes_at start history k)

-- the bytes at the last sync before a moment, or at first
abbrev pub stable_at : List ℕ → (ℕ → Change) → ℕ → List ℕ
stable_at start history zero = start
stable_at start history (suc k) =
    stable_after (history k) (bytes_at start history k) (stable_at start history k)

-- The disk rule: a crash leaves the bytes of the last sync, with any bytes in any part of the ranges
-- written since.
abbrev pub MayLeaveAt : List ℕ → (ℕ → Change) → ℕ → List ℕ → Type 0
MayLeaveAt start history zero c = c ≡ start
MayLeaveAt start history (suc k) c =
    MayLeaveAfter (history k) (bytes_at start history k) (MayLeaveAt start history k) c

-- a block was written and not synced at a moment
abbrev pub IsUnsyncedAt : (ℕ → Change) → ℕ → ℕ → Type 0
IsUnsyncedAt history zero block = ⊥
IsUnsyncedAt history (suc k) block =
    IsUnsyncedAfter block (history k) (IsUnsyncedAt history k block)

-- what a crash may have left at a moment from t on, up to now
abbrev pub LeftSince : List ℕ → (ℕ → Change) → ℕ → ℕ → List ℕ → Type 0
LeftSince start history now t c = (k : ℕ) × (t ≤ k) × (k ≤ now) × MayLeaveAt start history k c
