-- A journal goes on behind the trail that was found.
use Rattle.std.specs.Prelude.{◌≡◌, ◌⊎◌, ℕ, ◌-◌, ◌^◌, ◌<◌, ◌≤◌, List, Some}
use Rattle.sea_base.specs.Faults.{FaultsRose}
use Rattle.sea_device.specs.declared.device.Device.{Ghosts}
use Rattle.sea_segment.specs.Table.{IsLeastEmpty, empty_of}
use Rattle.sea_segment.specs.declared.state.Segment.{Segment}
use Rattle.sea_trail.specs.Trail.{IsTrail, segment_end}
use Rattle.sea_trail.specs.declared.trail.Trail.{Trail}
use Rattle.sea_journal.specs.Journal.{HasLog}
use Rattle.sea_journal.specs.Log.{Log, HasPrefix, IsClear, IsRolled, IsSynced}
use Rattle.sea_journal.specs.Resume.{mounted, opened}
use Rattle.sea_journal.specs.Rolls.{InTable, rolled_table}
use Rattle.sea_journal.specs.Room.{Takes}
use Rattle.sea_journal.specs.declared.journal.Journal.{Journal}
use Rattle.sea_journal.specs.declared.journal.ReserveFault.{ReserveFault}
use Rattle.sea_journal.specs.declared.journal.ReserveFault.TheVariants.{NoRoom, DeviceFault as DeviceFailed, NoMemory as MemoryRanOut}
use Rattle.sea_journal.specs.declared.journal.ResumeFault.{ResumeFault}
use Rattle.sea_journal.specs.declared.journal.ResumeFault.TheVariants.{NoMemory, DeviceFault, NoSpace}
use Rattle.sea_journal.specs.declared.queue.Queue.{Queue}
use Rattle.sea_journal.specs.declared.room.Who.TheVariants.{Mount}

-- A device that was synced tells this image, which has this trail, and the table has the segments
-- of the trail.
pub record IsFound {D : Type 0} (g : Ghosts D) (image : List ℕ) (t : Trail) (table : List Segment)
    (device : D) : Type 0 where
  pub told : g.contents device ≡ Some image
  pub trail : IsTrail image t
  pub alone : (c : List ℕ) → g.may_leave device c → c ≡ image
  pub in_table : InTable (opened image t) table

-- a block is left in the open segment, or another segment is empty
abbrev pub HasSpace : Trail → List Segment → Type 0
HasSpace t table = Takes Mount 1 (segment_end t.active - t.end.0) (empty_of table)

-- The mount record goes on from this past: the one that was found, where its open segment has a
-- block left, and else the one where the least empty segment is opened behind it.
pub data LeadsTo (found : Log) (table : List Segment) (start : Log) : Type 0 where
  with_room : found.trail.end.0 < segment_end found.trail.active → start ≡ found
      → LeadsTo found table start
  with_roll : segment_end found.trail.active ≤ found.trail.end.0 → IsRolled found start
      → IsLeastEmpty table start.trail.active → LeadsTo found table start

-- none of the numbers that the queue ends with is used up
pub record MayMount (q : Queue) : Type 0 where
  pub seq : (1 ≤ q.seq) × (q.seq < 2 ^ 62)
  pub mount : q.link.mount < 2 ^ 62
  pub commit : q.link.commit.0 < 2 ^ 62

-- the table once this segment is the open one
pub record IsTableThen (t : Trail) (table now : List Segment) (active : ℕ) : Type 0 where
  pub with_room : t.end.0 < segment_end t.active → now ≡ table
  pub with_roll : segment_end t.active ≤ t.end.0 → now ≡ rolled_table table t.active t.seq active

-- The journal goes on behind what was found, with a mount record that is stable.
pub record IsBegun {D : Type 0} (g : Ghosts D) (found : Log) (table : List Segment)
    (j : Journal D g) : Type 0 where
  pub start : Log
  pub leads : LeadsTo found table start
  pub log : Log
  pub has_log : HasLog g log j
  pub synced : IsSynced (mounted start) log
  pub table_then : IsTableThen found.trail table j.table start.trail.active

-- At each moment since the old device a crash leaves the trail that was found, then the header of
-- another segment where one was opened, and then the mount record, or a prefix of these, where the
-- image is clear.
abbrev pub KeepsFound : {D : Type 0} → Ghosts D → Log → List Segment → D → D → Type 0
KeepsFound g found table old new =
    (start : Log) → LeadsTo found table start
    → (c : List ℕ) → g.left_since new (g.clock old) c → IsClear (mounted start) c
    → HasPrefix found c ⊎ HasPrefix (mounted start) c

-- Why no journal has begun: the device is blamed where its count of faults rose, and memory where
-- it stands still. There is no space exactly where there is none.
abbrev pub IsNotBegun : Type 0 → ℕ → ℕ → ResumeFault → Type 0
IsNotBegun space before now NoMemory = space × (now ≡ before)
IsNotBegun space before now DeviceFault = space × FaultsRose before now
IsNotBegun space before now NoSpace = space → ⊥

-- what an opening says of it
abbrev pub resume_fault : ReserveFault → ResumeFault
resume_fault (NoRoom need rest empty) = NoSpace
resume_fault DeviceFailed = DeviceFault
resume_fault MemoryRanOut = NoMemory
