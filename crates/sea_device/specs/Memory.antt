-- What a device in memory holds as it is made.
use Rattle.std.specs.Prelude.{◌≡◌, ℕ, ◌*◌, List, []}
use Rattle.std.specs.List.{fold}
use Rattle.sea_base.specs.declared.place.Paddr.{Paddr}
use Rattle.sea_device.specs.declared.memory.Fails.{Fails}
use Rattle.sea_device.specs.declared.memory.MemDevice.{MemDevice}
use Rattle.sea_device.specs.declared.call_log.Room.{Room}
use Rattle.sea_device.specs.Device.{overwritten}
use Rattle.sea_base.specs.Failures.{IsFresh}
use Rattle.sea_device.specs.Past.{IsNew, MayLeaveNow}

-- nothing fails
abbrev pub no_fails : Fails
no_fails = record { reads = []; writes = []; syncs = [] }

-- Nothing was done to it yet: a crash leaves these bytes, which it holds.
pub record IsMade (blocks : ℕ) (bytes : List ℕ) (room : Room) (fails : Fails)
    (d : MemDevice) : Type 0 where
  pub size : d.blocks ≡ blocks
  pub holds : d.bytes.items ≡ bytes
  pub past : IsNew bytes room d.past
  pub settled : (c : List ℕ) → MayLeaveNow d.past c → c ≡ bytes
  pub reads : IsFresh fails.reads d.reads
  pub writes : IsFresh fails.writes d.writes
  pub syncs : IsFresh fails.syncs d.syncs
  pub no_faults : d.faults ≡ 0

-- blocks laid over bytes, each in its place
abbrev pub laid : List (Paddr × List ℕ) → List ℕ → List ℕ
laid chosen bytes = fold (λ b x. overwritten (4096 * x.0.0) x.1 b) bytes chosen
