-- What is read of a device, and what a reading leaves of it.
use Rattle.std.specs.Prelude.{◌≡◌, ◌⊎◌, ℕ, ◌≤◌, List, IfSome}
use Rattle.std.specs.FinMap as map
use Rattle.sea_device.specs.declared.device.Device.{Ghosts}
use Rattle.sea_trail.specs.Trail.{IsTrail}
use Rattle.sea_trail.specs.declared.fault.ImageWhy.TheVariants.{BadRecord}
use Rattle.sea_trail.specs.declared.fault.ScanFault.{ScanFault}
use Rattle.sea_trail.specs.declared.fault.ScanFault.TheVariants as scans
use Rattle.sea_trail.specs.declared.trail.Trail.{Trail}
use Rattle.sea_transactions.specs.State.{State, IsClosed}
use Rattle.sea_engine.specs.Opens.{Change, IsShut, Makes}
use Rattle.sea_engine.specs.Replay.{last_number}
use Rattle.sea_record.specs.declared.record.Record.{Record}
use Rattle.sea_engine.specs.declared.reading.OpenFault.{OpenFault}
use Rattle.sea_engine.specs.declared.reading.OpenFault.TheVariants.{NoMemory, DeviceFault, Refused}
use Rattle.sea_engine.specs.declared.replay.ReplayFault.{ReplayFault}
use Rattle.sea_engine.specs.declared.replay.ReplayFault.TheVariants as replays

-- The image has this trail, and its records make the committed objects.
pub record IsRead (lays : Change) (image : List ℕ) (t : Trail) (state : State) : Type 0 where
  pub is_trail : IsTrail image t
  pub made : Makes lays t.records map.empty state.objects

-- There are so many clients, none has an open transaction, and no commit is later than the last of
-- these records.
pub record IsQuiet (clients : ℕ) (records : List Record) (state : State) : Type 0 where
  pub count : state.clients ≡ clients
  pub closed : (client : ℕ) → IsClosed state client
  pub last : state.last.0 ≤ last_number 0 records

-- an image that is refused is shut for that reason
abbrev pub Shuts : Change → List ℕ → OpenFault → Type 0
Shuts lays image NoMemory = Unit {0}
Shuts lays image DeviceFault = Unit {0}
Shuts lays image (Refused why) = IsShut lays image why

-- The bytes are as they were, and at each moment since, a crash leaves what it might have left
-- before.
pub record OnlySynced {D : Type 0} (g : Ghosts D) (old new : D) : Type 0 where
  pub size : g.size new ≡ g.size old
  pub contents : g.contents new ≡ g.contents old
  pub told : g.tells_images new ≡ g.tells_images old
  pub images : (c : List ℕ) → g.may_leave new c → g.may_leave old c
  pub later : g.clock old ≤ g.clock new
  pub moments : (t : ℕ) (c : List ℕ) → t ≤ g.clock old → g.left_since new t c
      → g.left_since old t c ⊎ g.may_leave old c

-- a crash leaves the bytes now, where the device tells them
abbrev pub IsStable : {D : Type 0} → Ghosts D → D → Type 0
IsStable g device = (c : List ℕ) → g.may_leave device c → IfSome (g.contents device) (λ image. c ≡ image)

-- what a fault of a scan says of an opening, and that of a record whose bytes are strange
abbrev pub open_fault : ScanFault → OpenFault
open_fault scans.NoMemory = NoMemory
open_fault scans.DeviceFault = DeviceFault
open_fault (scans.Refused why) = Refused why

abbrev pub strange_fault : ReplayFault → OpenFault
strange_fault replays.NoMemory = NoMemory
strange_fault (replays.Strange block) = Refused (BadRecord block)
