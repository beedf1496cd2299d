-- A journal over a device.
use Rattle.std.specs.Prelude.{◌≡◌, ℕ, ◌<◌, List, [], Some, None}
use Rattle.sea_device.specs.declared.device.Device.{Ghosts}
use Rattle.sea_trail.specs.Trail.{first_block}
use Rattle.sea_journal.specs.Log.{Log, IsLog, IsAfter, IsClear, HasPrefix}
use Rattle.sea_journal.specs.Queue.{Waits}
use Rattle.sea_journal.specs.Rolls.{InTable, Writes}
use Rattle.sea_journal.specs.declared.journal.Journal.{Journal}

-- A crash leaves the bytes now and nothing else. They are the anchor, where the open segment has a
-- record.
pub record IsSettled {D : Type 0} (g : Ghosts D) (log : Log) (image : List ℕ) (device : D) : Type 0 where
  pub alone : (c : List ℕ) → g.may_leave device c → c ≡ image
  pub held : first_block log.trail.active < log.trail.end.0 → image ≡ log.anchor

-- The journal has this past: it holds what is queued and the header that is being written, its
-- table has the segments of the trail, and its device tells bytes that come after the anchor. So
-- does whatever a crash may leave now. Where nothing is queued or being written the bytes now are
-- all that there is.
pub record HasLog {D : Type 0} (g : Ghosts D) (log : Log) (j : Journal D g) : Type 0 where
  pub is_log : IsLog log
  pub waits : Waits log j.queue
  pub writes : Writes log.next j.roll
  pub table : InTable log j.table
  pub image : List ℕ
  pub told : g.contents j.device ≡ Some image
  pub after : IsAfter log image
  pub images : (c : List ℕ) → g.may_leave j.device c → IsAfter log c
  pub settled : log.queued ≡ [] → log.next ≡ None → IsSettled g log image j.device

-- At each moment since the old device a crash leaves the trail of what is stable and then a prefix
-- of what is queued, where the image is clear.
abbrev pub CrashesKeep : {D : Type 0} → Ghosts D → Log → D → D → Type 0
CrashesKeep g log old new =
    (c : List ℕ) → g.left_since new (g.clock old) c → IsClear log c → HasPrefix log c
