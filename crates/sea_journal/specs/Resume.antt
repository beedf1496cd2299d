-- How a journal begins.
use Rattle.std.specs.Prelude.{◌≡◌, ℕ, ◌+◌, ◌^◌, ◌<◌, ◌≤◌, List, [], length, None}
use Rattle.sea_base.specs.RootFields.{IsRoot, IsTail}
use Rattle.sea_base.specs.declared.place.Root.{Root}
use Rattle.sea_base.specs.declared.place.Tail.{Tail}
use Rattle.sea_record.specs.Record.{IsOfKind, blocks, listed}
use Rattle.sea_record.specs.declared.record.Body.{Body}
use Rattle.sea_record.specs.declared.record.Kind.TheVariants.{Mount}
use Rattle.sea_record.specs.declared.record.Record.{Record}
use Rattle.sea_trail.specs.Trail.{blocks_needed, first_block, mount_after, segment_end, trail_link}
use Rattle.sea_trail.specs.declared.link.Link.{Link}
use Rattle.sea_trail.specs.declared.trail.Trail.{Trail}
use Rattle.sea_journal.specs.Log.{Log, pushed}

-- the segments are on a device of so many blocks, and the trail ends in the open one
pub record HasRoom (t : Trail) (size : ℕ) : Type 0 where
  pub few : t.segments ≤ 8191
  pub active : t.active < t.segments
  pub from : first_block t.active ≤ t.end.0
  pub upto : t.end.0 ≤ segment_end t.active
  pub room : blocks_needed t.segments ≤ size

-- no number is used up
pub record HasNumbers (t : Trail) : Type 0 where
  pub seq : (1 ≤ t.seq) × (t.seq < 2 ^ 62)
  pub mount : t.mount < 2 ^ 62
  pub commit : t.commit.0 < 2 ^ 62

-- its tail and its roots are some
pub record HasFields (t : Trail) : Type 0 where
  pub tail : IsTail t.tail
  pub root : IsRoot t.root

-- A journal can go on behind this trail.
pub record CanResume (t : Trail) (size : ℕ) : Type 0 where
  pub room : HasRoom t size
  pub numbers : HasNumbers t
  pub fields : HasFields t

-- the record that goes on from a link at this block
abbrev pub record_behind : ℕ → ℕ → Link → Body → Tail → Root → Record
record_behind place seq link body tail root = record {
  mount = mount_after body.kind link.mount;
  seq = seq;
  place = record { 0 = place };
  commit = record { 0 = link.commit.0 + 1 };
  tail = tail;
  root = root;
  prev = link.digest;
  body = body;
}

-- a mount record has nothing
abbrev pub mount_body : Body
mount_body = record { kind = Mount; placed = []; nodes = []; dropped = []; changes = []; plain = [] }

-- it lists nothing, has no nodes, is right for its kind in a record of any number, and takes two blocks at most
pub record IsBare (body : Body) : Type 0 where
  pub kind : (commit : ℕ) → IsOfKind body.kind commit body
  pub listed : listed body ≡ 0
  pub nodes : length body.nodes ≡ 0
  pub few : blocks body ≤ 2

abbrev pub mount_record : Trail → Record
mount_record t = record_behind t.end.0 t.seq (trail_link t) mount_body t.tail t.root

-- the past of a journal that begins
abbrev pub opened : List ℕ → Trail → Log
opened image t =
    record { opened = image; headers = []; made = []; anchor = image; trail = t; queued = []; next = None }

-- and once its mount record waits
abbrev pub mounted : Log → Log
mounted start = pushed start (mount_record start.trail)
