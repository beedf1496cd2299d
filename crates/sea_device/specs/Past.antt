-- The past of a device, by its log of calls.
use Rattle.std.specs.Prelude.{◌≡◌, ℕ, ◌+◌, ◌<◌, ◌≤◌, List, [], length}
use Rattle.sea_device.specs.declared.call_log.CallLog.{CallLog}
use Rattle.sea_device.specs.declared.call_log.Room.{Room}
use Rattle.sea_device.specs.Moments.{Change, bytes_at, stable_at, MayLeaveAt, IsUnsyncedAt, LeftSince}
use Rattle.sea_device.specs.CallLog.{history}

-- the moment now, counted in writes and syncs
abbrev pub now_of : CallLog → ℕ
now_of r = length r.calls.items

abbrev pub changes_of : CallLog → ℕ → Change
changes_of r = history r.written.items r.calls.items

-- the bytes at a moment
abbrev pub bytes_of : CallLog → ℕ → List ℕ
bytes_of r = bytes_at r.start.items (changes_of r)

-- what was stable at a moment
abbrev pub stable_of : CallLog → ℕ → List ℕ
stable_of r = stable_at r.start.items (changes_of r)

-- what a crash at a moment may leave
abbrev pub MayLeaveOf : CallLog → ℕ → List ℕ → Type 0
MayLeaveOf r = MayLeaveAt r.start.items (changes_of r)

-- what a crash now may leave
abbrev pub MayLeaveNow : CallLog → List ℕ → Type 0
MayLeaveNow r = MayLeaveOf r (now_of r)

-- what a crash at a moment from t on may have left
abbrev pub LeftSinceOf : CallLog → ℕ → List ℕ → Type 0
LeftSinceOf r = LeftSince r.start.items (changes_of r) (now_of r)

-- a block was written and not synced at a moment
abbrev pub IsUnsyncedOf : CallLog → ℕ → ℕ → Type 0
IsUnsyncedOf r = IsUnsyncedAt (changes_of r)

-- there is room for one more sync
abbrev pub TakesSync : CallLog → Type 0
TakesSync r = now_of r < r.room.calls

-- there is room for one more write of so many bytes
abbrev pub TakesWrite : CallLog → ℕ → Type 0
TakesWrite r len = TakesSync r × (length r.written.items + len ≤ r.room.bytes)

-- it begins with these bytes, and nothing was done since
pub record IsNew (start : List ℕ) (room : Room) (r : CallLog) : Type 0 where
  pub begins : r.start.items ≡ start
  pub no_calls : r.calls.items ≡ []
  pub no_bytes : r.written.items ≡ []
  pub has_room : r.room ≡ room

-- one more change was made
pub record GoesOn (old new : CallLog) (change : Change) : Type 0 where
  pub start : new.start ≡ old.start
  pub room : new.room ≡ old.room
  pub count : now_of new ≡ now_of old + 1
  pub before : (k : ℕ) → k < now_of old → changes_of new k ≡ changes_of old k
  pub last : changes_of new (now_of old) ≡ change
