-- Where the next record goes, and why there is no place for it.
use Rattle.std.specs.Prelude.{◌≡◌, ◌⊎◌, ℕ, ◌+◌, ◌<◌, ◌≤◌, List, Option, Some, None, MatchOption}
use Rattle.sea_base.specs.Faults.{FaultsRose}
use Rattle.sea_device.specs.declared.device.Device.{Ghosts}
use Rattle.sea_segment.specs.Table.{IsLeastEmpty, empty_of}
use Rattle.sea_segment.specs.declared.header.Header.{Header}
use Rattle.sea_segment.specs.declared.state.Segment.{Segment}
use Rattle.sea_trail.specs.Trail.{segment_end}
use Rattle.sea_journal.specs.Journal.{HasLog}
use Rattle.sea_journal.specs.Log.{Log, GoesOn, HasPrefix, IsAfter, IsBeside, IsClear, IsFinished, IsLog, IsSynced, begun, header_behind}
use Rattle.sea_journal.specs.Rolls.{BeginsAt, rest_of, rolled_table}
use Rattle.sea_journal.specs.Room.{Takes}
use Rattle.sea_journal.specs.declared.journal.Journal.{Journal}
use Rattle.sea_journal.specs.declared.journal.ReserveFault.{ReserveFault}
use Rattle.sea_journal.specs.declared.journal.ReserveFault.TheVariants.{NoRoom, DeviceFault, NoMemory}
use Rattle.sea_journal.specs.declared.roll.Roll.{Roll}
use Rattle.sea_journal.specs.declared.room.Who.{Who}

-- An image that a roll may leave: it comes after the past before; or it differs from what was made
-- stable in the block of the header of the least empty segment alone.
pub data IsOnTheWay (log : Log) (table : List Segment) (image : List ℕ) : Type 0 where
  after_past : IsAfter log image → IsOnTheWay log table image
  beside_header : (mid : Log) → IsSynced log mid → (h : Header) → IsLog (begun mid h)
      → IsLeastEmpty table h.segment → IsBeside mid h image → IsOnTheWay log table image

-- The journal came from one past to another. At each moment since, a clear image has the trail of
-- what was stable and a prefix of what was queued, by the past before or by the one after.
pub record ComesTo {D : Type 0} (g : Ghosts D) (old new : Journal D g) (log next : Log) : Type 0 where
  pub has_log : HasLog g next new
  pub goes_on : GoesOn log next
  pub later : g.clock old.device ≤ g.clock new.device
  pub images : (c : List ℕ) → g.left_since new.device (g.clock old.device) c
      → IsOnTheWay log old.table c
  pub crash : (c : List ℕ) → g.left_since new.device (g.clock old.device) c → IsClear next c
      → HasPrefix log c ⊎ HasPrefix next c

-- The rule of room takes a record of so many blocks in this journal.
abbrev pub TakesIn : {D : Type 0} {g : Ghosts D} → Who → ℕ → Journal D g → Type 0
TakesIn who need j = Takes who need (rest_of j.roll j.queue) (empty_of j.table)

-- nothing of it changed
pub record IsSame {D : Type 0} {g : Ghosts D} (old new : Journal D g) : Type 0 where
  pub device : new.device ≡ old.device
  pub table : new.table ≡ old.table
  pub queue : new.queue ≡ old.queue
  pub roll : new.roll ≡ old.roll

-- all but what is stable of the queue is as it was
pub record Keeps {D : Type 0} {g : Ghosts D} (old new : Journal D g) : Type 0 where
  pub table : new.table ≡ old.table
  pub roll : new.roll ≡ old.roll
  pub active : new.queue.active ≡ old.queue.active
  pub seq : new.queue.seq ≡ old.queue.seq
  pub place : new.queue.place ≡ old.queue.place
  pub link : new.queue.link ≡ old.queue.link

-- The segment that was the least empty is open behind what the old queue ended with.
pub record Rolls {D : Type 0} {g : Ghosts D} (old new : Journal D g) : Type 0 where
  pub least : IsLeastEmpty old.table new.queue.active
  pub queue : BeginsAt (header_behind new.queue.active old.queue.seq old.queue.link) new.queue
  pub table : new.table
      ≡ rolled_table old.table old.queue.active old.queue.seq new.queue.active

-- and this one, whose opening had begun
pub record Finishes {D : Type 0} {g : Ghosts D} (roll : Roll) (old new : Journal D g) : Type 0 where
  pub queue : BeginsAt roll.header new.queue
  pub table : new.table ≡ old.table

-- A record of so many blocks fits at the place. The segment is the one whose opening is finished by
-- this, the open one where it has room, and else the one that was the least empty.
pub record IsReady {D : Type 0} {g : Ghosts D} (need place : ℕ) (old new : Journal D g) : Type 0 where
  pub at : place ≡ new.queue.place.0
  pub room : place + need ≤ segment_end new.queue.active
  pub none : new.roll ≡ None
  pub segment : MatchOption old.roll
      ((need ≤ rest_of old.roll old.queue → IsSame old new)
      × (rest_of old.roll old.queue < need → Rolls old new))
      (λ roll. Finishes roll old new)

-- why no place is reserved
abbrev pub IsUnready : {D : Type 0} {g : Ghosts D} → Who → ℕ → ℕ → ℕ → Journal D g → Journal D g
    → ReserveFault → Type 0
IsUnready who need before now old new (NoRoom wanted rest empty) =
    (wanted ≡ need) × (rest ≡ rest_of old.roll old.queue) × (empty ≡ empty_of old.table)
    × (TakesIn who need old → ⊥) × (now ≡ before) × (old.roll ≡ None → IsSame old new)
IsUnready who need before now old new DeviceFault =
    FaultsRose before now × (old.roll ≡ None → TakesIn who need old)
IsUnready who need before now old new NoMemory = TakesIn who need old × (now ≡ before)

abbrev pub IsRollFault : ℕ → ℕ → ReserveFault → Type 0
IsRollFault before now (NoRoom wanted rest empty) = ⊥
IsRollFault before now DeviceFault = FaultsRose before now
IsRollFault before now NoMemory = now ≡ before

-- This segment is being opened.
pub record Begins {D : Type 0} {g : Ghosts D} (segment : ℕ) (old new : Journal D g) : Type 0 where
  pub roll : Roll
  pub is : new.roll ≡ Some roll
  pub header : roll.header ≡ header_behind segment old.queue.seq old.queue.link
  pub table : new.table ≡ rolled_table old.table old.queue.active old.queue.seq segment

-- The segment that was being opened is open, where there was one.
abbrev pub IsFinishedBy : Option Roll → Log → Log → Type 0
IsFinishedBy None log next = next ≡ log
IsFinishedBy (Some roll) log next = IsFinished log next roll.header
