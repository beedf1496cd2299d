-- What waits to be written behind a trail.
use Rattle.std.specs.Prelude.{◌≡◌, ℕ, ◌-◌, ◌*◌, ◌==◌, if◌then◌else◌, List, [], length, take}
use Rattle.std.specs.Option.{option_map}
use Rattle.sea_device.specs.declared.device.Device.{Ghosts}
use Rattle.sea_device.specs.Device.{overwritten}
use Rattle.sea_trail.specs.Trail.{chain_end, last_link, segment_end, trail_link}
use Rattle.sea_trail.specs.declared.trail.Trail.{Trail}
use Rattle.sea_journal.specs.declared.queue.Queue.{Queue}
use Rattle.sea_journal.specs.Changes.{LeavesItself}
use Rattle.sea_journal.specs.Links.{queue_bytes}
use Rattle.sea_journal.specs.Log.{Log}

-- the queue holds what is queued in this past
pub record Waits (log : Log) (q : Queue) : Type 0 where
  pub active : q.active ≡ log.trail.active
  pub seq : q.seq ≡ log.trail.seq
  pub start : q.start.0 ≡ log.trail.end.0
  pub place : q.place.0 ≡ chain_end log.trail.end.0 log.queued
  pub link : q.link ≡ last_link (trail_link log.trail) log.queued
  pub bytes : q.bytes.items ≡ queue_bytes log.queued
  pub count : q.count ≡ length log.queued

-- What is written at once. Where the records reach the end of the segment no zeros go behind them.
abbrev pub batch : Queue → List ℕ
batch q =
    if q.place.0 == segment_end q.active then take (4096 * (q.place.0 - q.start.0)) q.bytes.items
    else q.bytes.items

-- it was written, and a crash leaves the bytes now alone
pub record IsWritten {D : Type 0} (g : Ghosts D) (q : Queue) (old new : D) : Type 0 where
  pub contents : g.contents new
      ≡ option_map (overwritten (4096 * q.start.0) (batch q)) (g.contents old)
  pub alone : LeavesItself g new

-- nothing waits any more, and the next record goes on behind the last
pub record IsEmptied (old new : Queue) : Type 0 where
  pub active : new.active ≡ old.active
  pub seq : new.seq ≡ old.seq
  pub start : new.start ≡ old.place
  pub place : new.place ≡ old.place
  pub link : new.link ≡ old.link
  pub bytes : new.bytes.items ≡ []
  pub count : new.count ≡ 0

-- it begins behind this trail, with nothing
pub record BeginsBehind (t : Trail) (q : Queue) : Type 0 where
  pub active : q.active ≡ t.active
  pub seq : q.seq ≡ t.seq
  pub place : q.place ≡ t.end
  pub link : q.link ≡ trail_link t
